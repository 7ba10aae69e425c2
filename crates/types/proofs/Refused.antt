-- If there are no errors, tests passed.
use Rattle.std.proofs.Common.{◌≡◌, List, [], ◌∷◌, Bool, true, false, refl, if◌then◌else◌}

module _ {A : Type 0} where
  -- anything follows if there is an error although there is none
  pub refused : {B : Type 0} {x : A} {xs : List A} → x ∷ xs ≡ [] → B
  refused h = absurd cc

  pub test_passed : (b : Bool) (x : A) → (if b then [] else x ∷ []) ≡ [] → b ≡ true
  test_passed true x h = refl
  test_passed false x h = absurd cc

  pub test_failed : (b : Bool) (x : A) → (if b then x ∷ [] else []) ≡ [] → b ≡ false
  test_failed true x h = absurd cc
  test_failed false x h = refl
