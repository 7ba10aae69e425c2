-- No two lists have the same spelling if each item starts with a token that continues the list.
use Rattle.std.proofs.Common.{◌≡◌, ◌<◌, ◌≤◌, List, [], ◌∷◌, refl, ap, sym, ◌∙◌, arith}
use Rattle.syntax.specs.Token.{Token}
use Rattle.syntax.specs.Reading.{binds, list_level}

module _ {A : Type 0} (spells : List A → List Token → List Token) (none : (r : List Token) → spells [] r ≡ r)
    (goes_on : (a : A) (more : List A) (r : List Token) → list_level ≤ binds (spells (a ∷ more) r))
    (parts : (a b : A) (xs ys : List A) (r s : List Token) → binds r < list_level → binds s < list_level
    → spells (a ∷ xs) r ≡ spells (b ∷ ys) s → (a ≡ b) × (spells xs r ≡ spells ys s)) where
  pub lists_one : (x y : List A) (r s : List Token) → binds r < list_level → binds s < list_level
      → spells x r ≡ spells y s → (x ≡ y) × (r ≡ s)
  lists_one [] [] r s ends other same = (refl, sym (none r) ∙ same ∙ none s)
  lists_one [] (b ∷ ys) r s ends other same =
      absurd (omega (arith, goes_on b ys s, ap binds (sym (none r) ∙ same)))
  lists_one (a ∷ xs) [] r s ends other same =
      absurd (omega (arith, goes_on a xs r, ap binds (same ∙ none s)))
  lists_one (a ∷ xs) (b ∷ ys) r s ends other same =
      let first = parts a b xs ys r s ends other same in
      let more = lists_one xs ys r s ends other first.1 in
      (cc (first.0, more.0), more.1)
