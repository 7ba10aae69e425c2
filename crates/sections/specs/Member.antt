-- Membership in a list.
use Rattle.std.specs.Prelude.{List, ◌∷◌}

-- x is in the list, as its head or in its tail
pub data Member {A : Type 0} (x : A) : List A → Type 0 where
  first : {xs : List A} → Member x (x ∷ xs)
  next : {y : A} {xs : List A} → Member x xs → Member x (y ∷ xs)
