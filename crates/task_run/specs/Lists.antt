-- A property of each element of a list, and lists in another order.
use Rattle.std.specs.Prelude.{List, [], ◌∷◌}

-- P is true of each element
abbrev pub Each : {A : Type 0} → (A → Type 0) → List A → Type 0
Each P [] = Unit {0}
Each P (x ∷ xs) = P x × Each P xs

-- zs is ys with x inserted at some position
pub data Inserted {A : Type 0} (x : A) : List A → List A → Type 0 where
  here : {ys : List A} → Inserted x ys (x ∷ ys)
  later : {y : A} {ys zs : List A} → Inserted x ys zs → Inserted x (y ∷ ys) (y ∷ zs)

-- ys is xs in some order
pub data Shuffled {A : Type 0} : List A → List A → Type 0 where
  none : Shuffled [] []
  one : {x : A} {xs ys zs : List A} → Inserted x ys zs → Shuffled xs ys → Shuffled (x ∷ xs) zs
