use Rattle.std.proofs.Common.{arith, ap, ◌∙◌, refl, sym, ◌++◌, ◌*◌}
use Rattle.std.specs.Prelude.{List, map}
use Rattle.types.specs.declared.fault.Fault.{Fault}
use Rattle.types.specs.Run.{State, caught, keeping}
use Rattle.types.specs.Translation.{program, fault}
use Rattle.statement_steps.specs.declared.store.Store.{Store}
use Rattle.statement_steps.specs.declared.thread.Thread.{Thread}
use Rattle.statement_steps.specs.Standing.{state_of}
use Rattle.cost.specs.declared.frame.CostFrame.TheVariants.{Rest, EndRescue}
use Rattle.cost.specs.Accounts.{Account}
use Rattle.cost.specs.Frames.{rate}
use Rattle.cost.specs.Resume.{faults_in, frame, lines_in, standing}
use Rattle.cost.specs.Translation.{account}
use Rattle.cost.proofs.MachineLemmas.{machine_of, sound_counted, sound_kept, sound_with, told_before}
use Rattle.cost.proofs.Rescues.{handler_next, handling}
use Rattle.cost.proofs.Turns.{costs-push}
use Rattle.cost.proofs.Waiting.{block_done, open_is_one}
use Rattle.cost.proofs.machine.CostMachine.handle.Goals as goal

pub returns-clause-does : goal.returns-clause-does
returns-clause-does g c =
    let m = c.args.self.now in let p = program m.plan.program.now in let fresh = m.plan.budget.steps in
    let o = c.args.outer in let h = c.args.handler in
    let there = c.catch_faults.new.self in
    let task = c.in_ok-catch_faults.ensures.task in
    let told = c.in_ok-tell_before.ensures in
    let thread = c.tell_before.new.thread in let kept = c.leave_finish.new.self in
    let steps = ap (λ (t : Thread Store). t.steps) told.rest in
    let spawned = ap (λ (t : Thread Store). t.spawned) told.rest in
    let after : State (Unit {0}) → State Account = λ st. record (keeping (account kept) st) {
      lines = lines_in o.told ++ st.lines;
      faults = faults_in o.told ++ st.faults;
    } in
    let counted : Account → State Account = λ y. record (handling o h.faults.number (standing m.account m.thread).state) { extra = y } in
    record {
      plan = refl;
      sound =
          sound_counted (machine_of m.plan m.account thread h.block m.frames) kept
          (sound_with m.plan m.account there thread m.block h.block m.frames (ap (λ (t : Thread Store). t.store) told.rest)
          (ap (λ (t : Thread Store). t.environment) told.rest) (omega (arith, steps, spawned))
          (sound_kept m.plan m.account m.thread there m.block m.frames task c.requires.sound));
      comes =
          handler_next p fresh m.frames.items o h (standing m.account m.thread) (standing kept thread) c.requires.faulted
          (ap (keeping (account kept)) (told_before o.told there thread told)
          ∙ ap after (c.in_ok-catch_faults.ensures.state
          ∙ ap (λ (xs : List Fault). caught h.faults.number (map fault xs) (state_of m.thread)) c.new-none.ensures.items)
          ∙ ap counted c.leave_finish.ensures)
          (ap (λ (t : Thread Store). t.nest) told.rest ∙ task.nest)
          ∙ sym (block_done p fresh m.frames.items m.block (frame p fresh (EndRescue o h) (standing m.account m.thread)) c.requires.done);
    }

pub returns-clause-ends : goal.returns-clause-ends
returns-clause-ends g c =
    let m = c.args.self.now in let fresh = m.plan.budget.steps in
    let task = c.in_ok-catch_faults.ensures.task in
    omega (
      arith,
      ap (λ (t : Thread Store). t.steps * rate fresh t.nest) c.in_ok-tell_before.ensures.rest,
      ap (λ n. n * rate fresh c.catch_faults.new.self.nest) task.steps,
      ap (λ n. m.thread.steps * rate fresh n) task.nest,
      costs-push fresh m.frames.items (Rest c.args.handler.block),
      costs-push fresh m.frames.items (Rest m.block),
      open_is_one c.args.handler.block.now,
    )
