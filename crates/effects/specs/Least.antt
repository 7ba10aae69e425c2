-- The smallest label of a set.
use Rattle.std.specs.Prelude.{ℕ, ◌≤◌, Bool, Option, None, Some}
use Rattle.effects.specs.Accesses.{Access}

-- the smallest of those labels; none if there are none
abbrev pub IsLeast : (those : ℕ → Type 0) → Option ℕ → Type 0
IsLeast those None = (l : ℕ) → those l → ⊥
IsLeast those (Some l) = those l × ((k : ℕ) → those k → l ≤ k)

-- the smallest label of those accesses to a section that write it, or of those that read it
abbrev pub IsFirst : (those : Access → Type 0) → (section : ℕ) → (write : Bool) → Option ℕ → Type 0
IsFirst those s w = IsLeast (λ l. those (record { label = l; section = s; write = w }))
