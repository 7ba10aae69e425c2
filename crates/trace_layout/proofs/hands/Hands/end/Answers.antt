use Rattle.std.proofs.Common.{ap, sym, ◌∙◌, refl}
use Rattle.std.proofs.lemmas.List.{get_or_read}
use Rattle.trace_layout.specs.declared.spells.Spell.{Spell}
use Rattle.trace_layout.proofs.Handled.{hands_ended, later_unless}
use Rattle.trace_layout.proofs.hands.Hands.end.Goals as goal

pub returns-in_err-place : goal.returns-in_err-place
returns-in_err-place c = λ es leaving was. later_unless es c.args.number c.args.path.now c.args.ending c.args.self.now leaving c.in_err-place.ensures.none was

pub returns : goal.returns
returns c =
    let h = c.args.self.now in
    let place = c.in_ok-place.place in
    let s = c.index_mut-spell.result.now in
    let value = c.index_mut-spell.ensures.value in
    λ es leaving was.
    hands_ended es c.args.number c.args.path.now c.args.ending h _ place c.saturating_add-spell.result s leaving c.in_ok-place.ensures.found
    c.in_ok-place.ensures.there
    (λ d. sym (get_or_read h.spells.items place s c.in_ok-place.ensures.there value d))
    (ap (λ (x : Spell). x.ending) value ∙ c.in_ok-place.ensures.going s)
    (ap (λ (x : Spell). x.path.turns.items) value ∙ c.in_ok-place.ensures.same es c.args.number was s)
    refl refl refl refl was
