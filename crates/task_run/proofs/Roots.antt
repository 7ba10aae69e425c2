-- The root's start: all places of all arrays, with the numbers of an input that fits.
use Rattle.std.proofs.Common.{◌≡◌, ℕ, zero, suc, ◌+◌, ◌<◌, ◌≤◌, List, [], ◌∷◌, length, Option, Some, None, refl, ap, ◌∙◌, inl, inr}
use Rattle.std.proofs.Common.{arith}
use Rattle.std.proofs.lemmas.Option.{slice_get-get_or}
use Rattle.std.specs.Prelude.{ℤ, pos, true, is_some, slice_get, slice_index_or}
use Rattle.std.proofs.lemmas.Bool.{or_cases, or_left, or_right}
use Rattle.sections.proofs.Covering.{in_window, is_in-from}
use Rattle.shared_lemmas.proofs.Truths.{same_truth, false_true}
use Rattle.sections.specs.Covers.{has, is_in}
use Rattle.sections.specs.Place.{Place, Window}
use Rattle.types.specs.Code.{Array}
use Rattle.types.specs.Contents.{FitsArrays, also, held_by}
use Rattle.types.specs.Outcome.{whole_arrays}
use Rattle.holdings.specs.Held.{as_owned, numbers, owned}
use Rattle.holdings.specs.Holdings.{held, listed}
use Rattle.holdings.specs.declared.holdings.Holdings.{Holdings}
use Rattle.task_run.specs.Translation.{contents_of, owned_by}

is_there : (xs : List ℤ) (i : ℕ) → i < length xs → is_some (slice_get xs i) ≡ true
is_there xs i lt = ap is_some (slice_get-get_or xs i (pos 0) lt)

there_is : (xs : List ℤ) (i : ℕ) → is_some (slice_get xs i) ≡ true → i < length xs
there_is [] i h = false_true h
there_is (x ∷ xs) zero h = omega arith
there_is (x ∷ xs) (suc i) h = let k = there_is xs i h in omega (arith, k)

-- the places of an array
abbrev whole : (n : ℕ) → Array → Window
whole n x = record { array = n; at = 0; length = x.length }

-- the arrays from the n-th on have the numbers n and above
behind : (n : ℕ) (xs : List Array) (q : Place) → has (whole_arrays n xs) q ≡ true → n ≤ q.array
behind n [] q h = false_true h
behind n (x ∷ xs) q h =
    elim (or_cases (is_in (whole n x) q) (has (whole_arrays (n + 1) xs) q) h) as (λ _. n ≤ q.array) [
      | inl c ↦ let i = (in_window (whole n x) q c).array in omega (arith, i)
      | inr c ↦ let i = behind (n + 1) xs q c in omega (arith, i)
    ]

inside : (n k : ℕ) (xs : List Array) (rows : List (List ℤ)) → FitsArrays xs rows → (q : Place) → q.array ≡ n + k
    → has (whole_arrays n xs) q ≡ true → is_some (slice_get (slice_index_or rows k []) q.index) ≡ true
inside n k [] rows fits q e h = false_true h
inside n k (x ∷ xs) [] fits q e h = elim fits [ ]
inside n zero (x ∷ xs) (r ∷ rs) (also l fits) q e h =
    elim (or_cases (is_in (whole n x) q) (has (whole_arrays (n + 1) xs) q) h) as (λ _. is_some (slice_get r q.index) ≡ true) [
      | inl c ↦ let i = (in_window (whole n x) q c).high in is_there r q.index (omega (arith, i, l))
      | inr c ↦ let i = behind (n + 1) xs q c in absurd (omega (arith, i, e))
    ]
inside n (suc k) (x ∷ xs) (r ∷ rs) (also l fits) q e h =
    elim (or_cases (is_in (whole n x) q) (has (whole_arrays (n + 1) xs) q) h)
    as (λ _. is_some (slice_get (slice_index_or rs k []) q.index) ≡ true) [
      | inl c ↦ let i = (in_window (whole n x) q c).array in absurd (omega (arith, i, e))
      | inr c ↦ inside (n + 1) k xs rs fits q (omega (arith, e)) c
    ]

outside : (n k : ℕ) (xs : List Array) (rows : List (List ℤ)) → FitsArrays xs rows → (q : Place) → q.array ≡ n + k
    → is_some (slice_get (slice_index_or rows k []) q.index) ≡ true → has (whole_arrays n xs) q ≡ true
outside n zero [] [] fits q e h = false_true h
outside n (suc k) [] [] fits q e h = false_true h
outside n k [] (r ∷ rs) fits q e h = elim fits [ ]
outside n k (x ∷ xs) [] fits q e h = elim fits [ ]
outside n zero (x ∷ xs) (r ∷ rs) (also l fits) q e h =
    let i = there_is r q.index h in
    or_left (is_in (whole n x) q) (has (whole_arrays (n + 1) xs) q)
    (is_in-from (whole n x) q
    (record { array = omega (arith, e); low = omega arith; high = omega (arith, i, l) }))
outside n (suc k) (x ∷ xs) (r ∷ rs) (also l fits) q e h =
    or_right (is_in (whole n x) q) (has (whole_arrays (n + 1) xs) q)
    (outside (n + 1) k xs rs fits q (omega (arith, e)) h)

-- all places of all arrays are owned
pub root_owns : (h : Holdings) (xs : List Array) (rows : List (List ℤ)) → FitsArrays xs rows → held h ≡ as_owned (listed rows)
    → owned_by h ≡ has (whole_arrays 0 xs)
root_owns h xs rows fits is = ap (λ m q. is_some (owned m q)) is ∙ (λ t q. one q t)
  where
    some_owned : (v : Option ℤ) → is_some (owned (as_owned (λ q. v)) (record { array = 0; index = 0 })) ≡ is_some v
    some_owned None = refl
    some_owned (Some v) = refl

    one : (q : Place) → is_some (owned (as_owned (listed rows)) q) ≡ has (whole_arrays 0 xs) q
    one q =
        some_owned (listed rows q)
        ∙ same_truth (is_some (listed rows q)) (has (whole_arrays 0 xs) q) (outside 0 q.array xs rows fits q (omega arith))
        (inside 0 q.array xs rows fits q (omega arith))

-- with the numbers of the input
pub root_holds : (h : Holdings) (rows : List (List ℤ)) → held h ≡ as_owned (listed rows) → contents_of h ≡ held_by rows
root_holds h rows is = ap numbers is ∙ (λ t q. one (listed rows q) t)
  where
    one : (v : Option ℤ) → numbers (as_owned (λ q. v)) (record { array = 0; index = 0 }) ≡ v
    one None = refl
    one (Some v) = refl
