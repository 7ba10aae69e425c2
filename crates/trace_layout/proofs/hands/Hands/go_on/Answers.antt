use Rattle.std.proofs.Common.{sym, refl}
use Rattle.std.proofs.lemmas.List.{get_or_read}
use Rattle.trace_layout.proofs.Handled.{hands_went_on}
use Rattle.trace_layout.proofs.hands.Hands.go_on.Goals as goal

pub returns : goal.returns
returns c =
    let h = c.args.self.now in
    let place = c.in_ok-place.place in
    let s = c.index_mut-spell.result.now in
    λ es n was.
    hands_went_on es n h _ place c.saturating_add-spell.result s c.in_ok-place.ensures.there
    (λ d. sym (get_or_read h.spells.items place s c.in_ok-place.ensures.there c.index_mut-spell.ensures.value d))
    refl refl refl refl was
