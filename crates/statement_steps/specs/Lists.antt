-- The contents of the lists of a store.
use Rattle.std.specs.Prelude.{ℕ, ℤ, List, map, length}
use Rattle.types.specs.Contents.{Contents, held_by}
use Rattle.statement_steps.specs.declared.store.Store.{Store}

-- the numbers of each array
abbrev pub lists_of : Store → List (List ℤ)
lists_of s = map (λ v. v.items) s.arrays.items

-- the number at each place
abbrev pub contents_of : Store → Contents
contents_of s = held_by (lists_of s)

-- the number of elements of each array
abbrev pub lengths_of : Store → List ℕ
lengths_of s = map length (lists_of s)
