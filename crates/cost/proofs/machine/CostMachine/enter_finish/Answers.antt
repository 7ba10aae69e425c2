use Rattle.std.proofs.Common.{arith, ap, ◌∙◌, refl, ◌*◌, Vec, Global, map, [], ◌∷◌, ◌++◌}
use Rattle.std.specs.Prelude.{ℕ, ℤ}
use Rattle.types.specs.declared.fault.Fault.{Fault}
use Rattle.types.specs.Meaning.{hushed}
use Rattle.types.specs.Run.{keeping}
use Rattle.types.specs.Translation.{program, codes, fault}
use Rattle.statement_steps.specs.declared.store.Store.{Store}
use Rattle.statement_steps.specs.declared.thread.Thread.{Thread}
use Rattle.statement_steps.specs.Standing.{flow, state_of}
use Rattle.cost.specs.declared.frame.CostFrame.TheVariants.{Rest}
use Rattle.cost.specs.declared.frame.OuterCosts.{OuterCosts}
use Rattle.cost.specs.Frames.{rate}
use Rattle.cost.specs.Machines.{stack}
use Rattle.cost.specs.Resume.{end_of, standing}
use Rattle.cost.specs.Translation.{account}
use Rattle.cost.proofs.MachineLemmas.{machine_of, sound_counted, sound_pushed, sound_waits, sound_with}
use Rattle.cost.proofs.Rescues.{end_cost, end_sound, ends_on_top}
use Rattle.cost.proofs.Turns.{five-rate}
use Rattle.cost.proofs.Waiting.{resume-frame_block, costs-frame_block}
use Rattle.cost.proofs.machine.CostMachine.enter_finish.Goals as goal

pub returns-clause-does : goal.returns-clause-does
returns-clause-does c =
    let m = c.args.self.now in let p = program m.plan.program.now in let fresh = m.plan.budget.steps in
    let told = c.take_told.ensures in
    let thread = c.take_told.new.thread in
    let kept = c.enter_finish.new.self in
    let outer : OuterCosts = record {
      told = c.take_told.result;
      ended = m.account.tally.ended;
      ended_by_label = c.replace-ended_by_label.result;
    } in
    let end = end_of outer c.args.handler in
    let below = c.wait.new.frames in let waits = c.in_ok-wait.ensures in
    let frames = c.push.new.self in
    let on_top = c.in_ok-push.ensures.items ∙ ap (λ f. below.items ++ f ∷ []) c.end_of.ensures in
    let hushed_state = hushed (state_of m.thread) in
    let steps = ap (λ (t : Thread Store). t.steps) told.rest in
    let spawned = ap (λ (t : Thread Store). t.spawned) told.rest in
    record {
      plan = refl;
      sound =
          sound_counted (machine_of m.plan m.account thread c.args.body frames) kept
          (sound_pushed m.plan m.account thread m.block c.args.body below frames end on_top
          (end_sound p fresh outer c.args.handler)
          (sound_waits m.plan m.account thread m.block m.block m.frames below waits
          (sound_with m.plan m.account m.thread thread m.block m.block m.frames (ap (λ (t : Thread Store). t.store) told.rest)
          (ap (λ (t : Thread Store). t.environment) told.rest) (omega (arith, steps, spawned)) c.requires.sound)));
      comes =
          resume-frame_block m.block m.frames.items p fresh below.items waits frames.items end c.args.body (standing kept thread) on_top
          ∙ ends_on_top p fresh (stack m) (stack m ++ end ∷ []) ((stack m ++ end ∷ []) ++ Rest c.args.body ∷ [])
          c.args.body (codes c.args.body.now) outer c.args.handler c.args.label (standing m.account m.thread) (standing kept thread)
          (ap flow c.requires.on)
          (ap (λ (v : Vec (Vec ℤ Global) Global). map (λ (w : Vec ℤ Global). w.items) v.items) told.lines)
          (ap (λ (v : Vec Fault Global). map fault v.items) told.faults) refl
          (ap (λ (v : Vec ℕ Global). v.items) c.replace-ended_by_label.ensures.value)
          (ap (keeping (account kept)) told.nothing ∙ ap (λ y. keeping y hushed_state) c.in_ok-enter_finish.ensures)
          (ap (λ (t : Thread Store). t.nest) told.rest)
          refl refl refl;
    }

pub returns-clause-ends : goal.returns-clause-ends
returns-clause-ends c =
    let m = c.args.self.now in let fresh = m.plan.budget.steps in
    let outer : OuterCosts = record {
      told = c.take_told.result;
      ended = m.account.tally.ended;
      ended_by_label = c.replace-ended_by_label.result;
    } in
    omega (
      arith,
      costs-frame_block m.block m.frames.items fresh c.wait.new.frames.items c.in_ok-wait.ensures c.push.new.self.items
          (end_of outer c.args.handler) c.args.body
          (c.in_ok-push.ensures.items ∙ ap (λ f. c.wait.new.frames.items ++ f ∷ []) c.end_of.ensures),
      end_cost fresh outer c.args.handler,
      ap (λ (t : Thread Store). t.steps * rate fresh t.nest) c.take_told.ensures.rest,
      five-rate fresh m.thread.nest,
    )
