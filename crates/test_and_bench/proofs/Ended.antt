-- Two texts, one of which has ended.
use Rattle.std.proofs.Common.{◌≡◌, ℕ, zero, suc, ◌≤◌, List, [], ◌∷◌, length, arith, refl}
use Rattle.std.specs.Prelude.{drop, min}
use Rattle.test_and_bench.specs.Differences.{differing_line}
use Rattle.test_and_bench.specs.Hunks.{common}

pub no_more_wanted : (line : ℕ) (told : List ℕ) → differing_line line told [] ≡ line
no_more_wanted line [] = refl
no_more_wanted line (x ∷ told) = refl

pub one_has_ended : (line n : ℕ) (told wanted : List ℕ) → min (length told) (length wanted) ≤ n
    → differing_line line (drop n told) (drop n wanted) ≡ line
one_has_ended line zero [] wanted ended = refl
one_has_ended line zero (x ∷ told) [] ended = refl
one_has_ended line zero (x ∷ told) (y ∷ wanted) ended = absurd (omega (arith, ended))
one_has_ended line (suc n) [] wanted ended = refl
one_has_ended line (suc n) (x ∷ told) [] ended = no_more_wanted line (drop n told)
one_has_ended line (suc n) (x ∷ told) (y ∷ wanted) ended = one_has_ended line n told wanted (omega (arith, ended))

-- lines that are given in some form
module _ {X : Type 0} (line : X → List ℕ) where
  none_with_none : (xs : List X) → common line xs [] ≡ 0
  none_with_none [] = refl
  none_with_none (x ∷ xs) = refl

  pub none_in_common : (n : ℕ) (xs ys : List X) → min (length xs) (length ys) ≤ n
      → common line (drop n xs) (drop n ys) ≡ 0
  none_in_common zero [] ys ended = refl
  none_in_common zero (x ∷ xs) [] ended = refl
  none_in_common zero (x ∷ xs) (y ∷ ys) ended = absurd (omega (arith, ended))
  none_in_common (suc n) [] ys ended = refl
  none_in_common (suc n) (x ∷ xs) [] ended = none_with_none (drop n xs)
  none_in_common (suc n) (x ∷ xs) (y ∷ ys) ended = none_in_common n xs ys (omega (arith, ended))
