use Rattle.shared_lemmas.proofs.Truths.{false_true}
use Rattle.effects.specs.UseSets.{HasUse}
use Rattle.effects.proofs.UseLemmas.{found, missing, has_found, has_none}
use Rattle.effects.proofs.uses.Uses.has.Goals as goal

pub returns-in-Some : goal.returns-in-Some
unfolding HasUse
returns-in-Some c =
    let h = c.in-Some.ensures.lookup in
    let at = has_found _ c.in-Some.labels.now c.args.label (found _ _ c.args.section.number c.in-Some.labels.now c.deref.ensures.value h.3.0 h.1) in
    (λ k. at.0 (c.has.ensures.0 k), λ k. c.has.ensures.1 (at.1 k))

pub returns-in-None : goal.returns-in-None
unfolding HasUse
returns-in-None c =
    let none = missing _ _ c.args.section.number c.deref.ensures.value c.in-None.ensures.lookup.3 in
    (λ k. false_true k, λ k. absurd (has_none _ c.args.label none k))
