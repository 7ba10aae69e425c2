use Rattle.std.proofs.Common.{ℕ, List, ◌%◌, subst}
use Rattle.types.specs.Run.{by_number}
use Rattle.effects.specs.LabelSets.{HasBit, HasLabel}
use Rattle.effects.proofs.LabelSetLemmas.{no_bit}
use Rattle.effects.proofs.label_set.LabelSet.new.Goals as goal

pub returns : goal.returns
unfolding HasLabel
returns c = λ l h. no_bit (l % 64) (subst (λ (xs : List ℕ). HasBit (by_number 0 xs) l) c.new.ensures.items h)
