-- Which numbers are in a list of consecutive numbers.
use Rattle.std.proofs.Common.{ℕ, zero, suc, ◌+◌, ◌<◌, ◌≤◌, subst, arith, inl, inr}
use Rattle.std.proofs.lemmas.Bool.{cases_eq}
use Rattle.sections.specs.Member.{Member, first, next}
use Rattle.types.specs.Sound.{numbers_from}

pub numbers_from-member : (a n s : ℕ) → a ≤ s → s < a + n → Member s (numbers_from a n)
numbers_from-member a zero s le lt = absurd (omega arith)
numbers_from-member a (suc n) s le lt = elim (cases_eq a s) [
  | inl e ↦ subst (λ k. Member k (numbers_from a (suc n))) e first
  | inr ne ↦ next (numbers_from-member (a + 1) n s (omega (arith, le, lt, ne)) (omega arith))
]

numbers_from-bounds : (a n s : ℕ) → Member s (numbers_from a n) → s < a + n
numbers_from-bounds a zero s h = elim h [ ]
numbers_from-bounds a (suc n) s first = omega arith
numbers_from-bounds a (suc n) s (next h) = let k : s < a + 1 + n = numbers_from-bounds (a + 1) n s h in omega arith

pub numbers_from-below : (n s : ℕ) → Member s (numbers_from 0 n) → s < n
numbers_from-below n s h = let k : s < 0 + n = numbers_from-bounds 0 n s h in omega arith
