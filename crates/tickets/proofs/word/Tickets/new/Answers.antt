use Rattle.std.proofs.Common.{rules, ◌<◌, ap}
use Rattle.tickets.proofs.Steps.{split_keeps}
use Rattle.tickets.proofs.word.Tickets.new.Goals as goal

pub split_seat-requires : goal.split_seat-requires
split_seat-requires c =
    let was = c.loop-seat.invariant in
    let table = c.in_ok-table.table.shared in
    let rest = c.loop-seat.rest in
    let left : 0 < rest.me.0.seats = search rules in
    (was.1, search rules, split_keeps table.key rest.id rest.me.0 left (ap (λ m. m.0.drawn) was.2))
