-- The uses of each section: the labels of the statements that use it in one way.
use Rattle.std.specs.Prelude.{ℕ, Option, None, Some, slice_get}
use Rattle.effects.specs.LabelSets.{HasLabel}
use Rattle.effects.specs.declared.label_set.LabelSet.{LabelSet}
use Rattle.effects.specs.declared.uses.Uses.{Uses}

-- the set exists, and it has the label
abbrev pub HasIn : Option LabelSet → (label : ℕ) → Type 0
HasIn None l = ⊥
HasIn (Some labels) l = HasLabel labels l

-- the statement with the label uses the section
unfoldable pub HasUse : Uses → (section label : ℕ) → Type 0
HasUse uses s l = HasIn (slice_get uses.sets.items s) l
