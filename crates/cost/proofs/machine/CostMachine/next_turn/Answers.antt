use Rattle.std.proofs.Common.{arith, ap, ◌∙◌, refl}
use Rattle.std.proofs.lemmas.Result.{on_ok_weaker}
use Rattle.sections.specs.Translation.{window}
use Rattle.types.specs.Translation.{environment, program}
use Rattle.statement_steps.specs.declared.store.Store.{Store}
use Rattle.statement_steps.specs.declared.thread.Thread.{Thread}
use Rattle.statement_steps.specs.Turns.{begun, pieces}
use Rattle.statement_steps.specs.Standing.{flow, state_of}
use Rattle.statement_steps.proofs.Pieces.{has_none, has_one}
use Rattle.cost.specs.Machines.{stack, statement, work}
use Rattle.cost.specs.Resume.{Standing, acted, placed, resume, standing}
use Rattle.cost.specs.Accounts.{Account}
use Rattle.cost.specs.Translation.{account}
use Rattle.cost.proofs.Beside.{beside, beside-stopped}
use Rattle.cost.proofs.MachineLemmas.{does_by, machine_of, step_sound, step_counted, sound_with}
use Rattle.cost.proofs.TurnFrames.{no_turn_left, turn_missed, turn_taken}
use Rattle.cost.proofs.Turns.{taken, missed, missed_on, turns-step, five-rate}
use Rattle.cost.proofs.machine.CostMachine.next_turn.Goals as goal

pub returns-in_default-clause-does : goal.returns-in_default-clause-does
returns-in_default-clause-does g c =
    let m = c.args.self.now in let t = c.args.turns in
    record {
      plan = refl;
      sound = c.requires;
      comes =
          no_turn_left (program m.plan.program.now) m.plan.budget.steps (stack m) t (standing m.account m.thread)
          (has_none ((environment m.thread.environment).windows t.section.number) t.size t.next c.in_default.ensures.piece);
    }

pub enter_turn-requires-clause-step : goal.enter_turn-requires-clause-step
enter_turn-requires-clause-step g c =
    let m = c.args.self.now in
    let step = taken c.takes_step.result m.thread c.takes_step.new.self c.if-takes_step.true c.takes_step.ensures.taken in
    step_counted (machine_of m.plan m.account c.takes_step.new.self m.block m.frames) c.step.new.self
    (step_sound m.plan m.account m.thread c.takes_step.new.self m.block m.block m.frames step c.requires)

pub returns-in_ok-step-2-clause-does : goal.returns-in_ok-step-2-clause-does
returns-in_ok-step-2-clause-does g c =
    let m = c.args.self.now in let p = program m.plan.program.now in let fresh = m.plan.budget.steps in let t = c.args.turns in
    let step = taken c.takes_step.result m.thread c.takes_step.new.self c.if-takes_step.true c.takes_step.ensures.taken in
    let at : Account → Thread Store → Standing = λ y th. resume p fresh (stack m) (acted p fresh t.label (begun t) (placed y th)) in
    on_ok_weaker c.enter_turn.result
    (does_by (work (pieces t)) (statement t.label (begun t)) m
    (machine_of m.plan c.step.new.self c.takes_step.new.self m.block m.frames) c.enter_turn.new.self refl
    (ap (at (account c.step.new.self)) step.same
    ∙ ap (λ y. at y (record m.thread { steps = c.takes_step.new.self.steps })) c.in_ok-step.ensures
    ∙ turn_taken p fresh (stack m) t c.takes_step.new.self.steps (standing m.account m.thread) (ap flow step.on) step.less
    (has_one ((environment m.thread.environment).windows t.section.number) (window c.in-Some.piece) t.size t.next c.in-Some.ensures.piece)))
    c.enter_turn.ensures.does

pub returns-in_ok-step-2-clause-ends : goal.returns-in_ok-step-2-clause-ends
returns-in_ok-step-2-clause-ends g c =
    let m = c.args.self.now in let fresh = m.plan.budget.steps in
    let step = taken c.takes_step.result m.thread c.takes_step.new.self c.if-takes_step.true c.takes_step.ensures.taken in
    on_ok_weaker c.enter_turn.result
    (λ less. omega (
      arith,
      less,
      five-rate fresh c.takes_step.new.self.nest,
      turns-step fresh m.thread c.takes_step.new.self step.less (ap (λ (t : Thread Store). t.nest) step.same),
    ))
    c.enter_turn.ensures.ends

pub returns-in_ok-report_stop-clause-does : goal.returns-in_ok-report_stop-clause-does
returns-in_ok-report_stop-clause-does g c =
    let m = c.args.self.now in let p = program m.plan.program.now in let t = c.args.turns in
    let none = missed c.takes_step.result m.thread c.takes_step.new.self c.if-takes_step.false c.takes_step.ensures.not_taken in
    let steps = ap (λ (t : Thread Store). t.steps) none.same in
    let spawned = ap (λ (t : Thread Store). t.spawned) none.same in
    record {
      plan = refl;
      sound =
          sound_with m.plan m.account m.thread c.takes_step.new.self m.block m.block m.frames (ap (λ (t : Thread Store). t.store) none.same)
          (ap (λ (t : Thread Store). t.environment) none.same) (omega (arith, steps, spawned)) c.requires;
      comes =
          turn_missed p m.plan.budget.steps (stack m) t (standing m.account m.thread) (standing m.account c.takes_step.new.self)
          (has_one ((environment m.thread.environment).windows t.section.number) (window c.in-Some.piece) t.size t.next c.in-Some.ensures.piece)
          (missed_on m.thread c.takes_step.new.self none)
          (ap (beside (account m.account)) none.flow ∙ beside-stopped (account m.account) (flow m.thread.flow) (state_of m.thread)) (ap (λ (t : Thread Store). t.nest) none.same);
    }
