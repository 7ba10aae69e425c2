use Rattle.workers.specs.Own.{IsOwnTask}
use Rattle.workers.proofs.main_loop.Shared.noted_turn.Given as goal

-- the task is of the run
abbrev pub invariant-loop : goal.invariant-loop
invariant-loop g l =
    (goal.iterator-loop g).can_next l.iterator' × (goal.iterator-loop g).is_finite l.iterator'
    × IsOwnTask g.J.Running.job l.task
