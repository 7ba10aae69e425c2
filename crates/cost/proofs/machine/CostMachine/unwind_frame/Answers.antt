use Rattle.std.proofs.Common.{arith, ◌∙◌, sym}
use Rattle.types.specs.Translation.{program}
use Rattle.cost.specs.declared.frame.CostFrame.TheVariants.{Rest}
use Rattle.cost.specs.Resume.{frame, standing}
use Rattle.cost.proofs.Frames.{resume-pushed}
use Rattle.cost.proofs.Turns.{costs-push, costs-pushed}
use Rattle.cost.proofs.Waiting.{block_done}
use Rattle.cost.proofs.machine.CostMachine.unwind_frame.Goals as goal

pub returns-in_ok-leave-in-Some : goal.returns-in_ok-leave-in-Some
returns-in_ok-leave-in-Some g c =
    let m = c.args.self.now in let p = program m.plan.program.now in let fresh = m.plan.budget.steps in
    let f = c.in-Some.frame in let below = c.pop.new.self.items in let s = standing m.account m.thread in
    let does = c.in_ok-leave-in-Some.ensures.does in
    let popped = c.in-Some.ensures.items in (
      record {
        plan = does.plan;
        sound = does.sound;
        comes =
            does.comes
            ∙ block_done p fresh below m.block (frame p fresh f s) c.requires.done
            ∙ sym (resume-pushed p fresh below m.frames.items f s popped)
            ∙ sym (block_done p fresh m.frames.items m.block s c.requires.done);
      },
      omega (
        arith,
        c.in_ok-leave-in-Some.ensures.ends,
        costs-pushed fresh below m.frames.items f popped,
        costs-push fresh below (Rest m.block),
        costs-push fresh m.frames.items (Rest m.block),
      ),
    )
