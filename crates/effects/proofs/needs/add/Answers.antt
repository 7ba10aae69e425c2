use Rattle.std.proofs.Common.{◌∙◌, map, ap}
use Rattle.sections.specs.Translation.{section}
use Rattle.effects.proofs.NeedsListed.{stays_there, put_between, put_behind_all}
use Rattle.effects.proofs.needs.add.Goals as goal

pub returns-in-Some : goal.returns-in-Some
returns-in-Some c =
    let h = c.in-Some.ensures.lookup in
    stays_there c.args.section c.args.into.now.items c.deref.result.now c.deref-2.result.now c.deref.ensures.value c.deref-2.ensures.value
    c.place_of-place.result c.place_of-place.ensures.below c.in-Some.other.now h.3.0 h.1 c.if-other-section.true

pub returns-in_ok-insert-in-Some-2 : goal.returns-in_ok-insert-in-Some-2
returns-in_ok-insert-in-Some-2 c =
    let h = c.in-Some.ensures.lookup in
    ap (map section) c.in_ok-insert-in-Some-2.ensures.items
    ∙ put_between c.args.section c.args.into.now.items c.deref.result.now c.deref-2.result.now c.deref.ensures.value
    c.deref-2.ensures.value c.place_of-place.result c.place_of-place.ensures.below c.place_of-place.ensures.within
    c.place_of-place.ensures.behind c.in-Some.other.now h.3.0 h.1 c.if-other-section.false

pub returns-in_ok-push-in-None : goal.returns-in_ok-push-in-None
returns-in_ok-push-in-None c =
    ap (map section) c.in_ok-push-in-None.ensures.items
    ∙ put_behind_all c.args.section c.args.into.now.items c.deref.result.now c.deref-2.result.now c.deref.ensures.value
    c.deref-2.ensures.value c.place_of-place.result c.place_of-place.ensures.below c.place_of-place.ensures.within
    c.place_of-place.ensures.behind c.in-None.ensures.lookup.3
