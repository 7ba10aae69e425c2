-- A number that passes a test is found, if it is known that there is one.
use Rattle.std.proofs.Common.{◌≡◌, ◌⊎◌, ℕ, zero, suc, ◌<◌, ◌≤◌, refl, sym, ◌∙◌, inl, inr, subst, arith}
use Rattle.std.proofs.Math.Logic.{∥∥₁_elim}
use Rattle.std.specs.Prelude.{Bool, true, false}
use Rattle.shared_lemmas.proofs.Truths.{true_false}
use denote.Struct.Props.{props}
use mathlib.Core.HLevel.{Σ_prop_path}

-- a number passes, and none below it
abbrev IsFirst : (ℕ → Bool) → ℕ → Type 0
IsFirst test k = (test k ≡ true) × ((j : ℕ) → j < k → test j ≡ false)

IsFirst-prop : (test : ℕ → Bool) (k : ℕ) → IsProp (IsFirst test k)
IsFirst-prop test k = hlevel props

abbrev First : (ℕ → Bool) → Type 0
First test = (k : ℕ) × IsFirst test k

-- there is at most one such number
first_not_later : (test : ℕ → Bool) (a b : First test) → a.0 < b.0 → ⊥
first_not_later test a b lt = true_false (sym a.1.0 ∙ b.1.1 a.0 lt)

First-prop : (test : ℕ → Bool) → IsProp (First test)
First-prop test a b =
    let one = first_not_later test a b in
    let other = first_not_later test b a in
    let same : a.0 ≡ b.0 = omega (arith, one, other) in
    Σ_prop_path {B = IsFirst test} (IsFirst-prop test) {u = a} {v = b} same

-- a walk over the numbers below n
walk : (test : ℕ → Bool) (n : ℕ) → First test ⊎ ((k : ℕ) → k < n → test k ≡ false)
walk test zero = inr (λ k h. absurd (omega (arith, h)))
walk test (suc n) = by_rest (walk test n)
  where
    by_test : ((k : ℕ) → k < n → test k ≡ false) → (t : Bool) → test n ≡ t → First test ⊎ ((k : ℕ) → k < suc n → test k ≡ false)
    by_test none true e = inl (n, (e, none))
    by_test none false e = inr (λ k h. at_most k (order k n (omega (arith, h))))
      where
        order : (k m : ℕ) → k ≤ m → (k < m) ⊎ (k ≡ m)
        order k m h = grind (arith, h)

        at_most : (k : ℕ) → (k < n) ⊎ (k ≡ n) → test k ≡ false
        at_most k (inl h) = none k h
        at_most k (inr i) = subst (λ m. test m ≡ false) (sym i) e

    by_rest : First test ⊎ ((k : ℕ) → k < n → test k ≡ false) → First test ⊎ ((k : ℕ) → k < suc n → test k ≡ false)
    by_rest (inl first) = inl first
    by_rest (inr none) = by_test none (test n) refl

first_of : (test : ℕ → Bool) (k : ℕ) → test k ≡ true → First test
first_of test k e = by_walk (walk test (suc k))
  where
    by_walk : First test ⊎ ((j : ℕ) → j < suc k → test j ≡ false) → First test
    by_walk (inl first) = first
    by_walk (inr none) = let lt : k < suc k = omega arith in true_false (sym e ∙ none k lt)

-- a number that passes
abbrev pub Passing : (ℕ → Bool) → Type 0
Passing test = (k : ℕ) × (test k ≡ true)

pub some_passes : (test : ℕ → Bool) → ∥ Passing test ∥₁ → Passing test
some_passes test there =
    let found = ∥∥₁_elim there (First-prop test) (λ (some : Passing test). first_of test some.0 some.1) in
    (found.0, found.1.0)
