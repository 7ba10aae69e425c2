use Rattle.std.proofs.Common.{◌≡◌, ◌+◌, ◌-◌, [], All, vec_len}
use Rattle.tickets.specs.Shares.{share}
use Rattle.tickets.proofs.word.Tickets.new.Given as goal

-- the rest represents the seats that aren't made yet, and nothing was drawn on any
abbrev pub invariant-loop-seat : goal.invariant-loop-seat
invariant-loop-seat l =
    (vec_len l.made + 1 ≡ l.seat)
    × (l.rest.table_id ≡ l.table.shared.table_id)
    × (l.rest.me ≡ (share (l.fn.seats - vec_len l.made) [], []))
    × All (λ s. (s.place.table_id ≡ l.table.shared.table_id) × (s.place.me.0.drawn ≡ [])) l.made.items
