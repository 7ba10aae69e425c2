-- What is added to a table is no longer missing.
use Rattle.std.proofs.Common.{◌≡◌, ℕ, ◌+◌, ◌<◌, ◌≤◌, List, [], ◌∷◌, refl, sym, arith, true≢false}
use Rattle.std.specs.Prelude.{Bool, true, false, if◌then◌else◌}
use Rattle.sections.specs.Member.{Member, first, next}
use Rattle.effects.specs.Accesses.{Access}

-- the number of these that a table doesn't have
abbrev pub missing : (has : Access → Bool) → (possible : List Access) → ℕ
missing has [] = 0
missing has (x ∷ xs) = if has x then missing has xs else 1 + missing has xs

module _ (has more : Access → Bool) (grows : (y : Access) → has y ≡ true → more y ≡ true) where
  one_less : (a b : Bool) (m n : ℕ) → (a ≡ true → b ≡ true) → m ≤ n → (if b then m else 1 + m) ≤ (if a then n else 1 + n)
  one_less true true m n h k = k
  one_less true false m n h k = absurd (true≢false (sym (h refl)))
  one_less false true m n h k = omega arith
  one_less false false m n h k = omega arith

  one_fewer : (a b : Bool) (m n : ℕ) → (a ≡ true → b ≡ true) → m < n → (if b then m else 1 + m) < (if a then n else 1 + n)
  one_fewer true true m n h k = k
  one_fewer true false m n h k = absurd (true≢false (sym (h refl)))
  one_fewer false true m n h k = omega arith
  one_fewer false false m n h k = omega arith

  added : (a b : Bool) (m n : ℕ) → a ≡ false → b ≡ true → m ≤ n → (if b then m else 1 + m) < (if a then n else 1 + n)
  added true b m n e f k = absurd (true≢false e)
  added false false m n e f k = absurd (true≢false (sym f))
  added false true m n e f k = omega arith

  pub missing-less : (xs : List Access) → missing more xs ≤ missing has xs
  missing-less [] = omega arith
  missing-less (x ∷ xs) = one_less (has x) (more x) (missing more xs) (missing has xs) (grows x) (missing-less xs)

  pub missing-falls : (xs : List Access) (x : Access) → Member x xs → has x ≡ false → more x ≡ true → missing more xs < missing has xs
  missing-falls (y ∷ xs) x first e f = added (has x) (more x) (missing more xs) (missing has xs) e f (missing-less xs)
  missing-falls (y ∷ xs) x (next h) e f = one_fewer (has y) (more y) (missing more xs) (missing has xs) (grows y) (missing-falls xs x h e f)
  missing-falls [] x h e f = elim h [ ]
