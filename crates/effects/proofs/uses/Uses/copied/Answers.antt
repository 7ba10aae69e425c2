use Rattle.std.proofs.Common.{ℕ, Option, IfOk, sym, subst}
use Rattle.std.specs.Prelude.{◌↔◌}
use Rattle.effects.specs.LabelSets.{HasLabel}
use Rattle.effects.specs.UseSets.{HasIn, HasUse}
use Rattle.effects.specs.declared.label_set.LabelSet.{LabelSet}
use Rattle.effects.proofs.UseLemmas.{found, missing, has_none}
use Rattle.effects.proofs.uses.Uses.copied.Goals as goal

pub returns-in-Some : goal.returns-in-Some
unfolding HasUse
returns-in-Some c =
    let h = c.in-Some.ensures.lookup in
    subst (λ (o : Option LabelSet). IfOk c.copied.result (λ labels. (l : ℕ) → HasLabel labels l ↔ HasIn o l))
    (sym (found _ _ c.args.section.number c.in-Some.labels.now c.deref.ensures.value h.3.0 h.1)) c.copied.ensures

pub returns-in-None : goal.returns-in-None
unfolding HasUse
returns-in-None c = λ l. (
  λ k. absurd (c.new.ensures l k),
  λ k. absurd (has_none _ l (missing _ _ c.args.section.number c.deref.ensures.value c.in-None.ensures.lookup.3) k),
)
