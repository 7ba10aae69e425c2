use Rattle.std.proofs.Common.{List, subst}
use Rattle.std.specs.Prelude.{slice_get}
use Rattle.effects.specs.UseSets.{HasIn, HasUse}
use Rattle.effects.specs.declared.label_set.LabelSet.{LabelSet}
use Rattle.effects.proofs.uses.Uses.new.Goals as goal

pub returns : goal.returns
unfolding HasUse
returns c = λ s l h. subst (λ (xs : List LabelSet). HasIn (slice_get xs s) l) c.new.ensures.items h
