use Rattle.std.proofs.Common.{◌≡◌, ℕ, List, Bool, false, subst}
use Rattle.std.specs.Prelude.{ℤ}
use Rattle.types.specs.Translation.{input}
use Rattle.statement_steps.specs.declared.thread.Plan.{Plan}
use Rattle.cost.specs.declared.machine.CostMachine.{CostMachine}
use Rattle.cost.specs.Machines.{IsAtStart, IsSound, Turned, comes_to, nothing}
use Rattle.cost.proofs.EndLemmas.{HasRun, bounds_at_end, stands_at_end}
use Rattle.cost.proofs.cost.ran.Goals as goal

run : (job : Plan) (rows : ℕ) (lists : List (List ℤ)) (first m end : CostMachine) (more : Bool)
    → IsAtStart job rows lists first → m.plan ≡ first.plan
    → comes_to m nothing ≡ comes_to first nothing → IsSound m → more ≡ false → Turned more m end
    → HasRun job rows lists first m end
run job rows lists first m end more begins same comes sound ended turned = record {
  begins = begins;
  same = same;
  comes = comes;
  sound = sound;
  ended = subst (λ more. Turned more m end) ended turned;
}

pub returns-clause-stands : goal.returns-clause-stands
returns-clause-stands g c =
    stands_at_end _ _ _ _ _ _
    (run c.args.plan c.args.rows (input c.args.input.now) c.in_ok-machine.machine c.turns.machine c.turn.new.self _
    c.in_ok-machine.ensures c.turns.invariant.plan c.turns.invariant.comes c.turns.invariant.sound c.if-branch.false c.in_ok-turn.ensures)

pub returns-clause-bounds : goal.returns-clause-bounds
returns-clause-bounds g c =
    bounds_at_end _ _ _ _ _ _
    (run c.args.plan c.args.rows (input c.args.input.now) c.in_ok-machine.machine c.turns.machine c.turn.new.self _
    c.in_ok-machine.ensures c.turns.invariant.plan c.turns.invariant.comes c.turns.invariant.sound c.if-branch.false c.in_ok-turn.ensures)
