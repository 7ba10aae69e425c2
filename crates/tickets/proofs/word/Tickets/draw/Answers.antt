use Rattle.std.proofs.Common.{rules}
use Rattle.tickets.proofs.Steps.{draw_keeps, mark_keeps}
use Rattle.tickets.proofs.word.Tickets.draw.Goals as goal

pub fetch_add-number-requires : goal.fetch_add-number-requires
fetch_add-number-requires c =
    let table = c.args.self.now.table.shared in
    let seat = c.args.seat.now in
    (c.requires.of, search rules, draw_keeps table.key table.table_id.slots seat.place.id seat.place.me seat.one c.requires.left)

pub split_seat-mark-requires : goal.split_seat-mark-requires
split_seat-mark-requires c =
    let table = c.args.self.now.table.shared in
    let place = c.fetch_add-number.new.seat in
    (search rules, search rules, mark_keeps table.key place.id place.me.0)
