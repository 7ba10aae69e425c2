-- Booleans, and elements of lists.
use Rattle.std.proofs.Common.{◌≡◌, ◌⊎◌, inl, inr, List, [], ◌∷◌, ◌++◌, map, refl}
use Rattle.std.specs.Prelude.{flat_map}
use Rattle.sections.specs.Member.{Member, first, next}
pub use Rattle.types.proofs.NumbersFrom.{numbers_from-member, numbers_from-below}

pub in_left : {A : Type 0} {x : A} {xs : List A} (ys : List A) → Member x xs → Member x (xs ++ ys)
in_left ys first = first
in_left ys (next h) = next (in_left ys h)

pub in_right : {A : Type 0} {x : A} (xs : List A) {ys : List A} → Member x ys → Member x (xs ++ ys)
in_right [] h = h
in_right (x ∷ xs) h = next (in_right xs h)

pub in_map : {A B : Type 0} (f : A → B) {x : A} {xs : List A} → Member x xs → Member (f x) (map f xs)
in_map f first = first
in_map f (next h) = next (in_map f h)

pub in_parts : {A : Type 0} {x : A} (xs : List A) {ys : List A} → Member x (xs ++ ys) → Member x xs ⊎ Member x ys
in_parts [] h = inr h
in_parts (x ∷ xs) first = inl first
in_parts (x ∷ xs) (next h) = elim (in_parts xs h) [ inl k ↦ inl (next k) | inr k ↦ inr k ]

pub in_flat_map : {A B : Type 0} (f : A → List B) {x : A} {y : B} {xs : List A} → Member x xs → Member y (f x) → Member y (flat_map f xs)
in_flat_map f (first {xs = xs}) h = in_left (flat_map f xs) h
in_flat_map f (next {y = z} m) h = in_right (f z) (in_flat_map f m h)

-- what a list maps to comes from an element
pub from_map : {A B : Type 0} (f : A → B) {y : B} (xs : List A) → Member y (map f xs) → (x : A) × Member x xs × (y ≡ f x)
from_map f [] h = elim h [ ]
from_map f (x ∷ xs) first = (x, first, refl)
from_map f (x ∷ xs) (next h) = let r = from_map f xs h in (r.0, next r.1, r.2)
