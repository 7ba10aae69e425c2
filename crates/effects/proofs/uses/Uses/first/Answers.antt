use Rattle.std.proofs.Common.{Option, sym, subst}
use Rattle.effects.specs.Least.{IsLeast}
use Rattle.effects.specs.UseSets.{HasIn, HasUse}
use Rattle.effects.specs.declared.label_set.LabelSet.{LabelSet}
use Rattle.effects.proofs.UseLemmas.{found, missing, has_none}
use Rattle.effects.proofs.uses.Uses.first.Goals as goal

pub returns-in-Some : goal.returns-in-Some
unfolding HasUse
returns-in-Some c =
    let h = c.in-Some.ensures.lookup in
    subst (λ (o : Option LabelSet). IsLeast (HasIn o) c.least.result)
    (sym (found _ _ c.args.section.number c.in-Some.labels.now c.deref.ensures.value h.3.0 h.1)) c.least.ensures

pub returns-in-None : goal.returns-in-None
unfolding HasUse
returns-in-None c = λ l k. has_none _ l (missing _ _ c.args.section.number c.deref.ensures.value c.in-None.ensures.lookup.3) k
