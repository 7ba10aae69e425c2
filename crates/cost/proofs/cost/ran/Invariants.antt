use Rattle.std.proofs.Common.{◌≡◌}
use Rattle.cost.specs.Frames.{turns_left}
use Rattle.cost.specs.Machines.{IsSound, comes_to, nothing, stack}
use Rattle.cost.proofs.cost.ran.Given as goal

-- the machine is sound, and reaches the same position as at first
abbrev pub invariant-turns : goal.invariant-turns
invariant-turns g l = record {
  sound : IsSound l.machine;
  plan : l.machine.plan ≡ l.initial.machine.plan;
  comes : comes_to l.machine nothing ≡ comes_to l.initial.machine nothing;
}

abbrev pub decreases-turns : goal.decreases-turns
decreases-turns g l = turns_left l.machine.plan.budget.steps l.machine.thread (stack l.machine)
