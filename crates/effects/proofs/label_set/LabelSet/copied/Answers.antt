use Rattle.std.proofs.Common.{ℕ, List, sym, ◌∙◌, subst}
use Rattle.types.specs.Run.{by_number}
use Rattle.effects.specs.LabelSets.{HasBit, HasLabel}
use Rattle.effects.proofs.label_set.LabelSet.copied.Goals as goal

pub returns : goal.returns
unfolding HasLabel
returns c = λ l.
    let same = c.in_ok-words.ensures.items ∙ c.deref.ensures.value in
    (λ h. subst (λ (xs : List ℕ). HasBit (by_number 0 xs) l) same h, λ h. subst (λ (xs : List ℕ). HasBit (by_number 0 xs) l) (sym same) h)
