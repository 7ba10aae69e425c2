-- Rows of labels by number.
use Rattle.std.specs.Prelude.{ℕ, List, slice_get, IsSomeAnd}
use Rattle.effects.specs.LabelSets.{HasLabel}
use Rattle.effects.specs.declared.label_set.LabelSet.{LabelSet}
use Rattle.parallel_relation.specs.declared.rows.Rows.{Rows}

-- the row with this number has a label
abbrev pub HasIn : List LabelSet → ℕ → ℕ → Type 0
HasIn rows i y = IsSomeAnd (slice_get rows i) (λ row. HasLabel row y)

-- the rows, starting with that of 0
abbrev pub rows_of : Rows → List LabelSet
rows_of r = r.rows.items

abbrev pub HasAt : Rows → ℕ → ℕ → Type 0
HasAt r = HasIn (rows_of r)
