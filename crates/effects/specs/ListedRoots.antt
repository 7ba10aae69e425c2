-- Roots of sections as a list.
use Rattle.std.specs.Prelude.{ℕ, List, slice_index_or}

-- the root of a section by a list; a section that isn't listed is its own root
abbrev pub listed_root : List ℕ → ℕ → ℕ
listed_root roots s = slice_index_or roots s s
