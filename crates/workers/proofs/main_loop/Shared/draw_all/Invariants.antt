use Rattle.std.specs.Prelude.{◌≡◌, ◌+◌, length}
use Rattle.tickets.specs.Seats.{drawn_of}
use Rattle.workers.specs.WorkerStates.{HasSeat}
use Rattle.workers.proofs.main_loop.Shared.draw_all.Given as goal

-- the worker's seat is one of the run, and the other tickets were drawn
abbrev pub invariant-tickets : goal.invariant-tickets
invariant-tickets g l =
    HasSeat l.self.tickets l.self.settings.tasks l.state.seat
    × (length (drawn_of l.state.seat) + l.left ≡ length (drawn_of l.fn.state.seat) + l.number)

abbrev pub decreases-tickets : goal.decreases-tickets
decreases-tickets g l = l.left
