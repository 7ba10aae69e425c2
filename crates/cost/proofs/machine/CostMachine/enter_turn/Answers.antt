use Rattle.std.proofs.Common.{◌≡◌, ◌*◌, arith, ap, ◌∙◌, refl, subst, sym, [], ◌∷◌, ◌++◌}
use Rattle.sections.specs.Translation.{window}
use Rattle.types.specs.Run.{with_piece}
use Rattle.types.specs.Translation.{program, environment}
use Rattle.cost.specs.declared.frame.CostFrame.TheVariants.{Rest, Turns}
use Rattle.cost.specs.Frames.{rate}
use Rattle.cost.specs.Machines.{IsSound, stack}
use Rattle.cost.specs.Resume.{resume, standing}
use Rattle.sections.proofs.Pieces.{is_piece}
use Rattle.statement_steps.specs.declared.store.Store.{Store}
use Rattle.statement_steps.specs.declared.thread.Thread.{Thread}
use Rattle.statement_steps.specs.Standing.{flow}
use Rattle.statement_steps.proofs.BoundsLemmas.{piece_lies, with_piece_lies}
use Rattle.cost.proofs.MachineLemmas.{machine_of, sound_inside, sound_pushed, sound_waits}
use Rattle.cost.proofs.TurnFrames.{turn_on_top}
use Rattle.cost.proofs.Waiting.{resume-frame_block, costs-frame_block}
use Rattle.cost.proofs.machine.CostMachine.enter_turn.Goals as goal

pub returns-clause-does : goal.returns-clause-does
returns-clause-does c =
    let m = c.args.self.now in let p = program m.plan.program.now in let fresh = m.plan.budget.steps in
    let t = c.args.turns in let w = window c.args.piece in
    let old = environment m.thread.environment in
    let from = old.windows t.section.number in
    let inside = c.begin_turn.new.self in let env = inside.environment in
    let same : inside ≡ record m.thread { environment = env } = c.in_ok-begin_turn.ensures.rest in
    let task : Thread Store = record m.thread { environment = env } in
    let is = is_piece from w t.size t.next c.requires.piece in
    let is_env = ap (λ st. st.environment) c.in_ok-begin_turn.ensures.state in
    let is_turn = is_env ∙ ap (λ v. with_piece t.piece.number t.turn.number v t.next old) is.is in
    let below = c.wait.new.frames in let waits = c.in_ok-wait.ensures in
    let later = Turns c.after_next.result in
    let frames = c.push.new.self in let on_top = c.in_ok-push.ensures.items in
    let sound =
    sound_inside m.plan m.account m.thread env (with_piece t.piece.number t.turn.number w t.next old) m.block m.frames is_env
    (with_piece_lies p t.piece.number t.turn.number w t.next old
    (piece_lies p from w t.size t.next (c.requires.step.sound.thread.windows t.section.number) c.requires.piece)
    c.requires.step.sound.thread.windows)
    c.requires.step.sound in
    record {
      plan = refl;
      sound =
          subst (λ (u : Thread Store). IsSound (machine_of m.plan m.account u t.body frames)) (sym same)
          (sound_pushed m.plan m.account task m.block t.body below frames later on_top tt
          (sound_waits m.plan m.account task m.block m.block m.frames below waits sound));
      comes =
          ap (λ (u : Thread Store). resume p fresh (frames.items ++ Rest t.body ∷ []) (standing m.account u)) same
          ∙ resume-frame_block m.block m.frames.items p fresh below.items waits frames.items later t.body
          (standing m.account task) on_top
          ∙ turn_on_top p fresh (stack m) (stack m ++ later ∷ []) ((stack m ++ later ∷ []) ++ Rest t.body ∷ []) t
          (environment env) (standing m.account m.thread) (ap flow c.requires.step.on) is_turn
          (ap (λ u. stack m ++ Turns u ∷ []) c.after_next.ensures) refl;
    }

pub returns-clause-ends : goal.returns-clause-ends
returns-clause-ends c =
    let m = c.args.self.now in let fresh = m.plan.budget.steps in
    omega (
      arith,
      costs-frame_block m.block m.frames.items fresh c.wait.new.frames.items c.in_ok-wait.ensures
          c.push.new.self.items (Turns c.after_next.result) c.args.turns.body
          c.in_ok-push.ensures.items,
      ap (λ (u : Thread Store). u.steps * rate fresh u.nest) c.in_ok-begin_turn.ensures.rest,
    )
