use Rattle.std.proofs.Common.{arith, refl, ap, sym, ◌∙◌, get_or, None}
use Rattle.std.proofs.lemmas.List.{get_or_read_under}
use Rattle.trace_layout.proofs.Handled.{hand_left}
use Rattle.trace_layout.proofs.hands.Hands.leave.Goals as goal

pub returns-then-place-len : goal.returns-then-place-len
returns-then-place-len c =
    let h = c.args.self.now in
    let place = c.in-Some.place in
    let s = c.index_mut-spell.result.now in
    λ es path taking was.
    hand_left es c.args.number (record { worker = c.args.worker; path = path }) h _ place s c.leave.new.self taking
    (ap (λ w. get_or h.workers w None) (sym c.number.ensures.same) ∙ c.in-Some.is)
    (λ d. sym (get_or_read_under h.spells.items place h.spells.len s d c.index_mut-spell.ensures.value (omega arith) h.spells.ok.0))
    (record { going = c.leave.ensures.going; ended = c.leave.ensures.ended })
    refl refl refl refl was
