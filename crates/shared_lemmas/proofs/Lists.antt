-- Lists.
use Rattle.std.proofs.Common.{◌≡◌, ℕ, zero, suc, List, [], ◌∷◌, ◌++◌, length, ap, refl, ◌∙◌}
use Rattle.std.specs.Prelude.{Some, replicate, slice_get}
use Rattle.std.specs.List.{AllZip, repeat}
use Rattle.std.proofs.lemmas.List.{map-id}
use Rattle.std.proofs.lemmas.Option.{none-some}
use Rattle.std.proofs.lemmas.Slice.Zip.{AllZip-map}

-- a list whose elements are those of another list is that list
pub same_elements : {A : Type 0} (xs ys : List A) → AllZip (λ x y. y ≡ x) xs ys → ys ≡ xs
same_elements xs ys h = AllZip-map (λ x. x) xs ys h ∙ map-id xs

-- equal lists have equal heads and equal tails
pub same_head : {A : Type 0} {x y : A} {xs ys : List A} → x ∷ xs ≡ y ∷ ys → x ≡ y
same_head {A} {x} e = ap head e
  where
    head : List A → A
    head [] = x
    head (z ∷ zs) = z

pub same_rest : {A : Type 0} {x y : A} {xs ys : List A} → x ∷ xs ≡ y ∷ ys → xs ≡ ys
same_rest {A} e = ap rest e
  where
    rest : List A → List A
    rest [] = []
    rest (z ∷ zs) = zs

-- an element of the first of two appended lists, and the element right after a list
pub get-append_left : {A : Type 0} (xs ys : List A) (k : ℕ) (x : A) → slice_get xs k ≡ Some x → slice_get (xs ++ ys) k ≡ Some x
get-append_left [] ys k x e = absurd (none-some _ e)
get-append_left (y ∷ xs) ys zero x e = e
get-append_left (y ∷ xs) ys (suc k) x e = get-append_left xs ys k x e

pub get-append_last : {A : Type 0} (xs : List A) (x : A) → slice_get (xs ++ x ∷ []) (length xs) ≡ Some x
get-append_last [] x = refl
get-append_last (y ∷ xs) x = get-append_last xs x

-- repeating a space gives a row of spaces
pub spaces : (n : ℕ) → repeat {A = ℕ} n (32 ∷ []) ≡ replicate n 32
spaces zero = refl
spaces (suc n) = ap (λ (l : List ℕ). 32 ∷ l) (spaces n)
