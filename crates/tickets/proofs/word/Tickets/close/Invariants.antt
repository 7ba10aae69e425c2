use Rattle.std.proofs.Common.{◌≡◌, ℕ, ◌+◌, [], All, vec_len}
use Rattle.std.specs.Vec.Iter.{into_iter_items, into_iter_len}
use Rattle.tickets.specs.Shares.{times}
use Rattle.tickets.specs.Seats.{drawn_by, IsSeatOf}
use Rattle.tickets.proofs.word.Tickets.close.Given as goal

-- the joined share and the remaining seats have drawn what all seats drew
abbrev pub invariant-loop-seat : goal.invariant-loop-seat
invariant-loop-seat l =
    let left = into_iter_items l.seat-iterator in
    goal.iterator-loop-seat.can_next l.seat-iterator
    × goal.iterator-loop-seat.is_finite l.seat-iterator
    × (l.whole.table_id ≡ l.table.shared.table_id)
    × (l.whole.me.1 ≡ [])
    × (l.whole.me.0.seats + into_iter_len l.seat-iterator ≡ vec_len l.fn.seats)
    × ((x : ℕ) → times x l.whole.me.0.drawn + times x (drawn_by left) ≡ times x (drawn_by l.fn.seats.items))
    × All (IsSeatOf l.fn.self) left
