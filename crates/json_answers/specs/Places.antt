-- The positions at which statements start, by their labels.
use Rattle.std.specs.Prelude.{ℕ, ◌-◌, List, Option, option_map, slice_get}
use Rattle.syntax.specs.declared.place.TextPlace.{TextPlace}

-- the position of the statement with a label, if it is known; labels are counted from 1
abbrev pub place_at : List TextPlace → (label : ℕ) → Option TextPlace
place_at places label = slice_get places (label - 1)

abbrev pub line_of : Option TextPlace → Option ℕ
line_of = option_map (λ p. p.line)

abbrev pub column_of : Option TextPlace → Option ℕ
column_of = option_map (λ p. p.column)
