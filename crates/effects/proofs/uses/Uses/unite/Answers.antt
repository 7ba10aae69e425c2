use Rattle.std.proofs.Common.{◌<◌, length, refl, arith}
use Rattle.effects.specs.LabelSets.{HasLabel}
use Rattle.effects.specs.UseSets.{HasUse}
use Rattle.effects.proofs.UseLemmas.{has_set_at, has_found, found, through}
use Rattle.effects.proofs.uses.Uses.unite.Goals as goal

pub returns-clause-both : goal.returns-clause-both
unfolding HasUse
returns-clause-both c = λ s l.
    let room : c.args.section.number < length c.reserve.new.self.sets.items = omega (arith, c.in_ok-reserve.ensures.room) in
    through (has_set_at c.reserve.new.self.sets.items c.args.section.number c.index_mut.result.now c.unite.new.self
    (HasLabel c.args.labels.now) room c.index_mut.ensures.value c.in_ok-grown.ensures.both s l)
    (c.in_ok-reserve.ensures.same s l)

pub returns-clause-grown : goal.returns-clause-grown
unfolding HasUse
returns-clause-grown c = λ none l h.
    let s = c.args.section.number in
    let room : s < length c.reserve.new.self.sets.items = omega (arith, c.in_ok-reserve.ensures.room) in
    let at = found c.reserve.new.self.sets.items _ s c.index_mut.result.now refl room c.index_mut.ensures.value in
    (c.in_ok-reserve.ensures.same s l).0 ((has_found _ c.index_mut.result.now l at).0 (c.in_ok-grown.ensures.grown none l h))

pub returns-clause-new : goal.returns-clause-new
unfolding HasUse
returns-clause-new c = λ new.
    let s = c.args.section.number in
    let room : s < length c.reserve.new.self.sets.items = omega (arith, c.in_ok-reserve.ensures.room) in
    let at = found c.reserve.new.self.sets.items _ s c.index_mut.result.now refl room c.index_mut.ensures.value in
    let r = c.in_ok-grown.ensures.new new in
    record {
      label = r.label;
      among = r.among;
      missing = λ h. r.missing ((has_found _ c.index_mut.result.now r.label at).1 ((c.in_ok-reserve.ensures.same s r.label).1 h));
    }
