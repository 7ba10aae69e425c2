-- Partial maps from the offsets of a block. The offset of a place is its distance from the block's
-- first place.
use Rattle.std.specs.Prelude.{ℕ, ◌≡◌, Bool, true, false, ◌&&◌, nat_eq, nat_le, nat_lt}
use Rattle.std.specs.Prelude.{Option, Some, None, if◌then◌else◌}

-- a partial map from offsets
abbrev pub Offsets : Type 0 → Type 0
Offsets A = ℕ → Option A

-- whether an offset is in a range
abbrev pub in_range : (from to : ℕ) → ℕ → Bool
in_range from to k = nat_le from k && nat_lt k to

-- a map restricted to the offsets of a range
abbrev pub inside : {A : Type 0} → (from to : ℕ) → Offsets A → Offsets A
inside from to m k = if in_range from to k then m k else None

-- a map restricted to the offsets outside a range
abbrev pub outside : {A : Type 0} → (from to : ℕ) → Offsets A → Offsets A
outside from to m k = if in_range from to k then None else m k

-- a map with x at the offset i
abbrev pub put_at : {A : Type 0} → ℕ → A → Offsets A → Offsets A
put_at i x m k = if nat_eq i k then Some x else m k

-- a map without its entry at the offset i
abbrev pub without_at : {A : Type 0} → ℕ → Offsets A → Offsets A
without_at i m k = if nat_eq i k then None else m k

-- two maps are equal at each offset
abbrev pub Agree : {A : Type 0} → Offsets A → Offsets A → Type 0
Agree m n = (k : ℕ) → m k ≡ n k

-- there is something at each offset of a range
abbrev pub HasAll : {A : Type 0} → (from to : ℕ) → Offsets A → Type 0
HasAll from to m = (k : ℕ) → in_range from to k ≡ true → m k ≡ None → ⊥

-- there is nothing at any offset outside a range
abbrev pub HasOnly : {A : Type 0} → (from to : ℕ) → Offsets A → Type 0
HasOnly from to m = (k : ℕ) → in_range from to k ≡ false → m k ≡ None

-- no offset has something in both maps
abbrev pub StandApart : {A B : Type 0} → Offsets A → Offsets B → Type 0
StandApart m n = (k : ℕ) → (m k ≡ None → ⊥) → n k ≡ None

-- wherever the first map has something, the second does too
abbrev pub IsWithin : {A B : Type 0} → Offsets A → Offsets B → Type 0
IsWithin m n = (k : ℕ) → (m k ≡ None → ⊥) → n k ≡ None → ⊥
