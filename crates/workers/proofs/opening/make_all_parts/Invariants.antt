use Rattle.std.proofs.Common.{◌≡◌, ◌+◌, All, vec_len}
use Rattle.std.specs.Vec.Iter.{into_iter_items, into_iter_len}
use Rattle.workers.specs.WorkerStates.{HasSeat}
use Rattle.workers.specs.Words.{IsFresh}
use Rattle.workers.proofs.opening.make_all_parts.Given as goal

-- the parts of the workers have seats of the run, and those that are left are fresh
abbrev pub invariant-loop-seat : goal.invariant-loop-seat
invariant-loop-seat g l =
    (goal.iterator-loop-seat g).can_next l.seat-iterator × (goal.iterator-loop-seat g).is_finite l.seat-iterator
    × All (IsFresh l.tickets) (into_iter_items l.seat-iterator)
    × All (λ k. HasSeat l.tickets l.settings.tasks k.state.seat) l.all_parts.items
    × (vec_len l.all_parts + into_iter_len l.seat-iterator ≡ vec_len l.fn.seats)
