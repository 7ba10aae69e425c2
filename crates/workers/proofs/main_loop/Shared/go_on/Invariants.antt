use Rattle.worker_threads.specs.DequeEnds.{put_into}
use Rattle.workers.specs.WorkerStates.{DrawsForEach, HasSeat}
use Rattle.workers.specs.Own.{IsOwnTask}
use Rattle.workers.proofs.main_loop.Shared.go_on.Given as goal

-- the task and the worker's seat are of the run, and a ticket was drawn for each task that was put in
abbrev pub invariant-loop : goal.invariant-loop
invariant-loop g l =
    (goal.iterator-loop g).can_next l.iterator' × (goal.iterator-loop g).is_finite l.iterator'
    × IsOwnTask g.J.Running.job l.task × HasSeat l.self.tickets l.self.settings.tasks l.state.seat
    × DrawsForEach 0 l.fn.state.seat l.state.seat (put_into l.fn.tasks.own) (put_into l.tasks.own)
