-- Stretches in rows: each takes the first row that is free at its start.
use Rattle.std.specs.Prelude.{ℕ, ◌≡◌, ◌<◌, List, [], ◌∷◌, ◌++◌, length, if◌then◌else◌, nat_lt, nat_le}
use Rattle.std.specs.Prelude.{slice_index, slice_index_or, slice_set}
use Rattle.std.specs.List.{prefix_len}
use Rattle.trace_layout.specs.declared.stretch.Stretch.{Stretch}

-- the first row that ends before a position, or the row after the last: the number of full rows before it
abbrev pub first_free : (ends : List ℕ) → (first : ℕ) → ℕ
first_free ends first = prefix_len (λ e. nat_le first e) ends

-- the ends of the rows once something ends in a row, which may be a new one
abbrev pub ends_after : (ends : List ℕ) → (row last : ℕ) → List ℕ
ends_after ends row last =
    if nat_lt row (length ends) then slice_set ends row last else ends ++ last ∷ []

-- the rows of stretches, if the rows before them have these ends
abbrev pub rows_from : (ends : List ℕ) → List Stretch → List ℕ
rows_from ends [] = []
rows_from ends (s ∷ ss) =
    let row = first_free ends s.first in
    row ∷ rows_from (ends_after ends row s.last) ss

abbrev pub rows_of : List Stretch → List ℕ
rows_of = rows_from []

-- of two stretches in one row, the earlier one ends before the other starts
abbrev pub AreApart : List Stretch → (rows : List ℕ) → Type 0
AreApart ss rows = (j k : ℕ) (d : Stretch) → j < k → k < length ss
    → slice_index rows j ≡ slice_index rows k
    → (slice_index_or ss j d).last < (slice_index_or ss k d).first
