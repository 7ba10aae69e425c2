use Rattle.workers.specs.WorkerStates.{HasSeat}
use Rattle.workers.proofs.main_loop.Shared.main_loop.Given as goal

-- the worker's seat is one of the run
abbrev pub invariant-loop : goal.invariant-loop
invariant-loop g l =
    (goal.iterator-loop g).can_next l.iterator' × (goal.iterator-loop g).is_finite l.iterator'
    × HasSeat l.self.tickets l.self.settings.tasks l.state.seat
