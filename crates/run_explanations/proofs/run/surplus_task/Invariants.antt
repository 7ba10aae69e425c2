use Rattle.std.proofs.Common.{◌≡◌}
use Rattle.cost.specs.Machines.{IsSound}
use Rattle.run_explanations.proofs.run.surplus_task.Given as goal

-- the machine is sound, and runs the same program
abbrev pub invariant-turns : goal.invariant-turns
invariant-turns l = record {
  sound : IsSound l.machine;
  plan : l.machine.plan ≡ l.initial.machine.plan;
}
