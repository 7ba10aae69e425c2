use Rattle.std.proofs.Common.{rules, arith, ◌≡◌, ◌+◌, ◌++◌, ◌∷◌, [], ap, ◌∙◌, length, Some, cond, ◌==◌}
use Rattle.std.proofs.lemmas.Grind.{flat_map-append}
use Rattle.std.proofs.lemmas.List.{append-nil, nil_from_length}
use Rattle.std.proofs.lemmas.List.Elements.{All-pop}
use Rattle.std.proofs.lemmas.List.Sums.{sum_by-append}
use Rattle.std.specs.Vec.Iter.{into_iter_items, into_iter_len}
use Rattle.tickets.specs.Shares.{times}
use Rattle.tickets.specs.Seats.{drawn_by, drawn_of, IsSeatOf}
use Rattle.tickets.proofs.Steps.{join_keeps, mark_keeps, closing}
use Rattle.tickets.proofs.word.Tickets.close.Goals as goal

pub loop-seat-init : goal.loop-seat-init
loop-seat-init c =
    let last = c.in-Some.last in
    let rest = into_iter_items c.into_iter-seat-iterator.result in
    let items : c.args.seats.items ≡ rest ++ last ∷ [] = search rules in
    let long : into_iter_len c.into_iter-seat-iterator.result + 1 ≡ length c.args.seats.items = search rules in
    let of = All-pop (IsSeatOf c.args.self) c.args.seats.items rest (Some last) items c.requires.each in
    let one = last.one in (
      tt,
      tt,
      of.1,
      last.no_slots,
      omega (arith, one, long),
      (λ x.
          let drawn : drawn_by (rest ++ last ∷ []) ≡ drawn_by rest ++ drawn_of last
          = flat_map-append drawn_of rest (last ∷ []) ∙ ap (λ l. drawn_by rest ++ l) (append-nil (drawn_of last)) in
          let sums = sum_by-append (λ y. cond (y == x) 1 0) (drawn_by rest) (drawn_of last) in
          let all = ap (λ l. times x (drawn_by l)) items ∙ ap (times x) drawn ∙ sums in
          omega (arith, all)),
      of.0,
    )

pub join_seat-requires : goal.join_seat-requires
join_seat-requires c =
    let was = c.loop-seat.invariant in
    let table = c.args.self.table.shared in
    let whole = c.loop-seat.whole in let s = c.in-Some-seat.seat in
    let step : into_iter_items c.loop-seat.seat-iterator ≡ s ∷ into_iter_items c.next.new.self = search rules in
    let of : IsSeatOf c.args.self s = let h = was.6 0 s in grind rules in
    (was.2, of, s.no_slots, search rules, join_keeps table.key whole.id whole.me.0 s.place.id s.place.me.0)

pub loop-seat-preserved : goal.loop-seat-preserved
loop-seat-preserved c =
    let was = c.loop-seat.invariant in
    let whole = c.loop-seat.whole in let s = c.in-Some-seat.seat in
    let left = into_iter_items c.next.new.self in
    let step : into_iter_items c.loop-seat.seat-iterator ≡ s ∷ left = search rules in
    let long : into_iter_len c.loop-seat.seat-iterator ≡ into_iter_len c.next.new.self + 1 = search rules in
    let j = c.join_seat.ensures in
    let seats : c.join_seat.new.seat.me.0.seats ≡ whole.me.0.seats + s.place.me.0.seats = ap (λ m. m.0.seats) j.2 in
    let drawn : c.join_seat.new.seat.me.0.drawn ≡ whole.me.0.drawn ++ drawn_of s = ap (λ m. m.0.drawn) j.2 in
    let one = s.one in (
      tt,
      tt,
      j.0 ∙ was.2,
      ap (λ m. m.1) j.2 ∙ was.3,
      omega (arith, seats, one, long, was.4),
      (λ x.
          let joined = ap (times x) drawn ∙ sum_by-append (λ y. cond (y == x) 1 0) whole.me.0.drawn (drawn_of s) in
          let taken = ap (λ l. times x (drawn_by l)) step
          ∙ sum_by-append (λ y. cond (y == x) 1 0) (drawn_of s) (drawn_by left) in
          omega (arith, was.5 x, joined, taken)),
      λ k t below. let h = was.6 (k + 1) t in grind rules,
    )

pub split_seat-mark-requires : goal.split_seat-mark-requires
split_seat-mark-requires c =
    let whole = c.loop-seat.whole in
    (c.loop-seat.invariant.2, search rules, mark_keeps c.args.self.table.shared.key whole.id whole.me.0)

pub returns-clause-once : goal.returns-clause-once
returns-clause-once c x =
    let was = c.loop-seat.invariant in
    let whole = c.loop-seat.whole in
    let table = c.args.self.table.shared in
    let none : into_iter_len c.loop-seat.seat-iterator ≡ 0 = search rules in
    let left : into_iter_items c.loop-seat.seat-iterator ≡ [] = nil_from_length _ (search rules) in
    let nothing : times x (drawn_by (into_iter_items c.loop-seat.seat-iterator)) ≡ 0 = ap (λ l. times x (drawn_by l)) left in
    let marked = c.split_seat-mark.new.seat in
    let same = c.split_seat-mark.ensures.2 in
    let seats : marked.me.0.seats ≡ whole.me.0.seats = ap (λ m. m.0.seats) same in
    let draws : times x marked.me.0.drawn ≡ times x whole.me.0.drawn = ap (λ m. times x m.0.drawn) same in
    let all : marked.me.0.seats ≡ table.key = omega (arith, was.4, none, seats, c.requires.all) in
    let drawn = closing table.key marked.id marked.me.0 _ _ all c.close_with-closed.ensures.values.2 c.word-number.result
    c.word-number.ensures x in
    omega (arith, was.5 x, nothing, draws, drawn)
