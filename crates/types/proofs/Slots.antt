-- The elements of a list by number, after an item was added.
use Rattle.std.proofs.Common.{◌≡◌, ℕ, zero, suc, List, [], ◌∷◌, ◌++◌, length, refl, sym, ap, ◌∙◌}
use Rattle.std.proofs.lemmas.Bool.{eqb-true, eqb-false}
use Rattle.std.specs.Prelude.{map, Bool, true, false, nat_eq, slice_index_or, if◌then◌else◌}
use Rattle.types.specs.Run.{bind, by_number}
use Rattle.types.proofs.Lists.{by_number-append-replicate}

-- adding an item that equals the value past the end changes nothing
pub by_number-filled : {A : Type 0} (d : A) (xs ys : List A) → ys ≡ xs ++ d ∷ [] → by_number d ys ≡ by_number d xs
by_number-filled d xs ys e = ap (by_number d) e ∙ by_number-append-replicate d xs 1

pub slice_index_or-push_last : {A : Type 0} (d v : A) (xs : List A) → slice_index_or (xs ++ v ∷ []) (length xs) d ≡ v
slice_index_or-push_last d v [] = refl
slice_index_or-push_last d v (x ∷ xs) = slice_index_or-push_last d v xs

slice_index_or-push_other : {A : Type 0} (d v : A) (xs : List A) (k : ℕ) → (length xs ≡ k → ⊥) → slice_index_or (xs ++ v ∷ []) k d ≡ slice_index_or xs k d
slice_index_or-push_other d v [] zero ne = absurd (ne refl)
slice_index_or-push_other d v [] (suc k) ne = refl
slice_index_or-push_other d v (x ∷ xs) zero ne = refl
slice_index_or-push_other d v (x ∷ xs) (suc k) ne = slice_index_or-push_other d v xs k (λ e. ne (ap suc e))

slice_index_or-push : {A : Type 0} (d v : A) (xs : List A) (k : ℕ) (b : Bool) → nat_eq (length xs) k ≡ b
    → slice_index_or (xs ++ v ∷ []) k d ≡ (if b then v else slice_index_or xs k d)
slice_index_or-push d v xs k true e = ap (λ k. slice_index_or (xs ++ v ∷ []) k d) (sym (eqb-true (length xs) k e)) ∙ slice_index_or-push_last d v xs
slice_index_or-push d v xs k false e = slice_index_or-push_other d v xs k (eqb-false (length xs) k e)

-- an added item is bound to the old length
pub by_number-added : {A : Type 0} (d v : A) (xs ys : List A) (i : ℕ) → i ≡ length xs → ys ≡ xs ++ v ∷ []
    → by_number d ys ≡ bind i v (by_number d xs)
by_number-added d v xs ys i at e =
    ap (by_number d) e
    ∙ (λ t k. slice_index_or-push d v xs k (nat_eq (length xs) k) refl t)
    ∙ ap (λ i. bind i v (by_number d xs)) (sym at)

-- the element of a list of views is the view of the element
slice_index_or-map : {A B : Type 0} (f : A → B) (d : A) (xs : List A) (k : ℕ) → slice_index_or (map f xs) k (f d) ≡ f (slice_index_or xs k d)
slice_index_or-map f d [] k = refl
slice_index_or-map f d (x ∷ xs) zero = refl
slice_index_or-map f d (x ∷ xs) (suc k) = slice_index_or-map f d xs k

pub by_number-map : {A B : Type 0} (f : A → B) (d : A) (xs : List A) → by_number (f d) (map f xs) ≡ (λ k. f (by_number d xs k))
by_number-map f d xs = λ t k. slice_index_or-map f d xs k t

if-view : {A B : Type 0} (f : A → B) (b : Bool) (v w : A) → f (if b then v else w) ≡ (if b then f v else f w)
if-view f true v w = refl
if-view f false v w = refl

-- a view of a list after a write is the write of the view
pub by_number-map-bound : {A B : Type 0} (f : A → B) (d : A) (xs ys : List A) (i : ℕ) (v : A) → by_number d ys ≡ bind i v (by_number d xs)
    → by_number (f d) (map f ys) ≡ bind i (f v) (by_number (f d) (map f xs))
by_number-map-bound f d xs ys i v e =
    by_number-map f d ys
    ∙ (λ t k. f (e t k))
    ∙ (λ t k. if-view f (nat_eq i k) v (slice_index_or xs k d) t)
    ∙ ap (bind i (f v)) (sym (by_number-map f d xs))
