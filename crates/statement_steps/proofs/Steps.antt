-- What loops over lists preserve.
use Rattle.std.proofs.Common.{◌≡◌, ℕ, zero, suc, ◌+◌, ◌<◌, List, [], ◌∷◌, ◌++◌, length, get_or, take, Ok, Err}
use Rattle.std.proofs.Common.{refl, sym, ap, ◌∙◌, arith}
use Rattle.std.proofs.Math.Seq.{take-suc}
use Rattle.std.proofs.lemmas.List.{map-append}
use Rattle.std.specs.Prelude.{ℤ, map, slice_get, slice_index_or, Some, None, Result, OnOk}
use Rattle.types.specs.Code.{End}
use Rattle.types.specs.declared.code.Number.{Number as rNumber}
use Rattle.types.specs.declared.code.Procedure.{Procedure as rProcedure}
use Rattle.types.specs.Run.{no_procedure}
use Rattle.sections.specs.Place.{Place}
use Rattle.types.specs.Translation.{number as number_of, codes, procedure}
use Rattle.types.specs.Value.{Environment, Valued, then_try, numbers}

-- a third fact that follows from two facts for Ok
pub on_ok_both : {T E P Q R : Type 0} (r : Result T E) → (P → Q → R) → OnOk r P → OnOk r Q → OnOk r R
on_ok_both (Ok x) f p q = f p q
on_ok_both (Err e) f p q = p

pub map-pushed : {A B : Type 0} (f : A → B) (xs ys : List A) (x : A) → ys ≡ xs ++ x ∷ [] → map f ys ≡ map f xs ++ f x ∷ []
map-pushed f xs ys x e = ap (map f) e ∙ map-append f xs (x ∷ [])

-- one more item of a list and of its view
pub map-taken : {A B : Type 0} (f : A → B) (xs : List A) (bs : List B) (i : ℕ) (x : A) → i < length xs → x ≡ get_or xs i x
    → bs ≡ map f (take i xs) → bs ++ f x ∷ [] ≡ map f (take (i + 1) xs)
map-taken f xs bs i x lt at e =
    let more : i + 1 ≡ suc i = omega arith in
    ap (λ l. l ++ f x ∷ []) e
    ∙ sym (map-append f (take i xs) (x ∷ []))
    ∙ ap (λ y. map f (take i xs ++ y ∷ [])) at
    ∙ ap (map f) (sym (take-suc xs i x lt) ∙ ap (λ j. take j xs) (sym more))

module _ (env : Environment) (read : Place → ℤ) where
  -- the numbers so far, followed by the numbers of the remaining expressions
  abbrev pub followed : List rNumber → List ℤ → Valued (List ℤ)
  followed es so_far = then_try (numbers env read (map number_of es)) (λ vs. Ok (so_far ++ vs))

-- the body of the procedure with a number
pub body_at : (ps : List rProcedure) (f : ℕ) (x : rProcedure) → slice_get ps f ≡ Some x
    → codes x.body.items ≡ (slice_index_or (map procedure ps) f no_procedure).body
body_at ps f x e = by_lookup ps f e
  where
    by_lookup : (ps : List rProcedure) (f : ℕ) → slice_get ps f ≡ Some x
        → codes x.body.items ≡ (slice_index_or (map procedure ps) f no_procedure).body
    by_lookup [] f e = cc
    by_lookup (y ∷ ys) zero e = let same : y ≡ x = cc in ap (λ (z : rProcedure). codes z.body.items) (sym same)
    by_lookup (y ∷ ys) (suc f) e = by_lookup ys f e

-- there is none at a number past the end
pub no_body_at : (ps : List rProcedure) (f : ℕ) → slice_get ps f ≡ None
    → End ≡ (slice_index_or (map procedure ps) f no_procedure).body
no_body_at [] f e = refl
no_body_at (y ∷ ys) zero e = absurd (let bad : ⊥ = cc in bad)
no_body_at (y ∷ ys) (suc f) e = no_body_at ys f e
