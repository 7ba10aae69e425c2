use Rattle.std.proofs.Common.{refl, subst}
use Rattle.std.proofs.lemmas.Result.{on_ok_weaker}
use Rattle.cost.specs.declared.frame.CostFrame.TheVariants.{Again, EndCall, Turns}
use Rattle.cost.proofs.Going.{does_block, does_frame, does_turns, less_block, less_frame, taken_as}
use Rattle.types.specs.Translation.{program}
use Rattle.cost.specs.Machines.{LiesBelow}
use Rattle.cost.proofs.machine.CostMachine.take.Goals as goal

pub returns-in-Block-clause-does : goal.returns-in-Block-clause-does
returns-in-Block-clause-does c =
    let m = c.args.self.now in
    on_ok_weaker c.enter_block.result
    (λ e. taken_as m c.enter_block.new.self c.args.next _ c.in-Block.is
    (does_block c.in-Block.block m c.enter_block.new.self c.requires.sound e))
    c.enter_block.ensures

pub returns-in-Block-clause-ends : goal.returns-in-Block-clause-ends
returns-in-Block-clause-ends c =
    on_ok_weaker c.enter_block.result (less_block c.in-Block.block c.args.self.now c.enter_block.new.self) c.enter_block.ensures

pub returns-in-Iteration-clause-does : goal.returns-in-Iteration-clause-does
returns-in-Iteration-clause-does c =
    let m = c.args.self.now in let n = c.in-Iteration in
    on_ok_weaker c.enter.result
    (λ e. taken_as m c.enter.new.self c.args.next _ n.is
    (does_frame (Again n.label n.guard n.body) n.body m c.enter.new.self c.requires.sound tt e))
    c.enter.ensures

pub returns-in-Iteration-clause-ends : goal.returns-in-Iteration-clause-ends
returns-in-Iteration-clause-ends c =
    let n = c.in-Iteration in
    on_ok_weaker c.enter.result
    (less_frame (Again n.label n.guard n.body) n.body c.args.self.now c.enter.new.self refl)
    c.enter.ensures

pub returns-in-Turns-clause-does : goal.returns-in-Turns-clause-does
returns-in-Turns-clause-does c =
    let m = c.args.self.now in
    on_ok_weaker c.enter-in-Turns.result
    (λ e. taken_as m c.enter-in-Turns.new.self c.args.next _ c.in-Turns.is
    (does_turns c.in-Turns.turns _ m c.enter-in-Turns.new.self refl c.requires.sound e))
    c.enter-in-Turns.ensures

pub returns-in-Turns-clause-ends : goal.returns-in-Turns-clause-ends
returns-in-Turns-clause-ends c =
    on_ok_weaker c.enter-in-Turns.result
    (less_frame (Turns c.in-Turns.turns) _ c.args.self.now c.enter-in-Turns.new.self refl)
    c.enter-in-Turns.ensures

pub returns-in-Body-clause-does : goal.returns-in-Body-clause-does
returns-in-Body-clause-does c =
    let m = c.args.self.now in let n = c.in-Body in
    let below = subst (LiesBelow (program m.plan.program.now)) n.is c.requires.below in
    on_ok_weaker c.enter-in-Body.result
    (λ e. taken_as m c.enter-in-Body.new.self c.args.next _ n.is
    (does_frame (EndCall n.caller) n.body m c.enter-in-Body.new.self c.requires.sound below e))
    c.enter-in-Body.ensures

pub returns-in-Body-clause-ends : goal.returns-in-Body-clause-ends
returns-in-Body-clause-ends c =
    let n = c.in-Body in
    on_ok_weaker c.enter-in-Body.result (less_frame (EndCall n.caller) n.body c.args.self.now c.enter-in-Body.new.self refl)
    c.enter-in-Body.ensures
