-- Pairs in reverse.
use Rattle.std.specs.Prelude.{ℕ, ◌<◌}

-- the larger label has the smaller
abbrev pub Turns : (ℕ → ℕ → Type 0) → (x y : ℕ) → Type 0
Turns has x y = (x < y) × has y x
