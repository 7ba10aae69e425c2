use Rattle.std.proofs.Common.{arith, ap, ◌∙◌, refl, ◌++◌, ◌*◌}
use Rattle.std.specs.Prelude.{List, map}
use Rattle.types.specs.declared.fault.Fault.{Fault}
use Rattle.types.specs.Meaning.{after_finish}
use Rattle.types.specs.Run.{Flow, State, keeping}
use Rattle.types.specs.Translation.{program, fault}
use Rattle.statement_steps.specs.declared.store.Store.{Store}
use Rattle.statement_steps.specs.declared.thread.Thread.{Thread}
use Rattle.statement_steps.specs.Standing.{flow, state_of}
use Rattle.cost.specs.Accounts.{Account, leaves_behind}
use Rattle.cost.specs.Frames.{rate}
use Rattle.cost.specs.Machines.{stack}
use Rattle.cost.specs.Resume.{end_finish, faults_in, lines_in, resume, standing}
use Rattle.cost.specs.Translation.{account}
use Rattle.cost.proofs.Frames.{standing_by_state}
use Rattle.cost.proofs.MachineLemmas.{machine_of, sound_counted, sound_with, told_before}
use Rattle.cost.proofs.machine.CostMachine.end_finish.Goals as goal

pub returns-clause-does : goal.returns-clause-does
returns-clause-does g c =
    let m = c.args.self.now in let p = program m.plan.program.now in let fresh = m.plan.budget.steps in
    let o = c.args.outer in
    let told = c.in_ok-tell_before.ensures in
    let old = record m.thread { flow = c.behind_finish-self.result } in
    let thread = c.tell_before.new.thread in let kept = c.leave_finish.new.self in
    let st = state_of m.thread in
    let at : Flow → Account → State Account = λ f y. record (keeping y st) {
      flow = f;
      lines = lines_in o.told ++ st.lines;
      faults = faults_in o.told ++ st.faults;
    } in
    let steps = ap (λ (t : Thread Store). t.steps) told.rest in
    let spawned = ap (λ (t : Thread Store). t.spawned) told.rest in
    record {
      plan = refl;
      sound =
          sound_counted (machine_of m.plan m.account thread m.block m.frames) kept
          (sound_with m.plan m.account m.thread thread m.block m.block m.frames (ap (λ (t : Thread Store). t.store) told.rest)
          (ap (λ (t : Thread Store). t.environment) told.rest) (omega (arith, steps, spawned)) c.requires);
      comes =
          ap (resume p fresh (stack m))
          (standing_by_state (standing m.account m.thread) (standing kept thread)
          (end_finish o (standing m.account m.thread).state)
          (ap (keeping (account kept)) (told_before o.told old thread told)
          ∙ ap (at (flow c.behind_finish-self.result)) c.leave_finish.ensures
          ∙ ap (λ f. at f (leaves_behind o.ended o.ended_by_label.items (account m.account))) (c.behind_finish-self.ensures
          ∙ ap (λ (xs : List Fault). after_finish (flow m.thread.flow) (map fault xs)) c.deref.ensures.value))
          (ap (λ (t : Thread Store). t.nest) told.rest));
    }

pub returns-clause-ends : goal.returns-clause-ends
returns-clause-ends g c =
    let fresh = c.args.self.now.plan.budget.steps in
    omega (arith, ap (λ (t : Thread Store). t.steps * rate fresh t.nest) c.in_ok-tell_before.ensures.rest)
