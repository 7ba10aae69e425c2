-- Comparisons of numbers.
use Rattle.std.proofs.Common.{◌≡◌, ℕ, nat_eq, sym, eq-eqb, eqb-true}
use Rattle.shared_lemmas.proofs.Truths.{same_truth}

-- the comparison of two numbers is symmetric
pub nat_eq-sym : (a b : ℕ) → nat_eq a b ≡ nat_eq b a
nat_eq-sym a b =
    same_truth (nat_eq a b) (nat_eq b a) (λ h. eq-eqb b a (sym (eqb-true a b h))) (λ h. eq-eqb a b (sym (eqb-true b a h)))
