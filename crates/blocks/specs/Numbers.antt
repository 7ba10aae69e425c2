-- Numbers of neighbouring offsets.
use Rattle.std.specs.Prelude.{ℕ, ◌+◌, ◌-◌, ◌≤◌, ◌≡◌, ℤ, List, length, slice_get, nat_le, None, if◌then◌else◌}
use Rattle.blocks.specs.Offsets.{Offsets}
use Rattle.blocks.specs.declared.numbers.Numbers.{Numbers}
use Rattle.blocks.specs.declared.whole.Whole.{Whole}

-- the elements of a list at neighbouring offsets, with the first element at `first`
abbrev pub row_from : {A : Type 0} → (first : ℕ) → List A → Offsets A
row_from first xs k = if nat_le first k then slice_get xs (k - first) else None

-- the numbers of neighbouring offsets
abbrev pub number_in : Numbers → Offsets ℤ
number_in n k = row_from n.first n.list.items k

-- the numbers of all offsets of a block
abbrev pub whole_at : Whole → Offsets ℤ
whole_at w k = row_from 0 w.numbers k

-- some numbers cover a range of offsets
pub record ReachOver (n : Numbers) (from to : ℕ) : Type 0 where
  pub low : n.first ≤ from
  pub high : to ≤ n.first + length n.list.items

-- some numbers have the same offsets as others
pub record IsAsWide (n m : Numbers) : Type 0 where
  pub first : n.first ≡ m.first
  pub length : length n.list.items ≡ length m.list.items
