-- What lists of numbers hold.
use Rattle.std.specs.Prelude.{List, ℤ, slice_get, slice_index_or, []}
use Rattle.blocks.specs.Held.{Map}

-- what lists hold, with one list for each array
abbrev pub listed : List (List ℤ) → Map ℤ
listed arrays q = slice_get (slice_index_or arrays q.array []) q.index
