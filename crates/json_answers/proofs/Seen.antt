-- The values of a list so far, and the members of an object.
use Rattle.std.proofs.Common.{◌≡◌, ◌<◌, ◌≤◌, ◌+◌, ℕ, suc, List, [], ◌∷◌, ◌++◌, length, map, take, drop, get_or, refl, sym}
use Rattle.std.proofs.Common.{ap, ◌∙◌, Vec, Global, take_all, drop-cons, add-one}
use Rattle.std.proofs.lemmas.List.{map-append, take_more, drop_all}
use Rattle.std.proofs.lemmas.Simd.{map-map}
use Rattle.std.specs.List.{zip}
use Rattle.std.specs.Prelude.{ℤ}
use Rattle.serde_json.specs.Data.{Data, array, Members, no_members, put}
use Rattle.serde_json.specs.View.{view, items_of}
use Rattle.serde_json.specs.declared.value.Value.{Value, Array}
use Rattle.serde_json.proofs.Views.{view-Array}
use Rattle.types.specs.Code.{Array as PlainArray}
use Rattle.json_answers.specs.Outcomes.{numbers_json, put_arrays}
use Rattle.json_answers.specs.Pieces.{list_by}

-- the values that represent the first n of these
pub record SeenFirst {X : Type 0} (f : X → Data) (xs : List X) (n : ℕ) (vs : List Value) : Type 0 where
  pub so_far : map view vs ≡ map f (take n xs)

module _ {X : Type 0} (f : X → Data) (xs : List X) where
  -- one more
  pub seen_more : (n : ℕ) (x d : X) (vs : List Value) (v : Value) → n < length xs → x ≡ get_or xs n d
      → SeenFirst f xs n vs → view v ≡ f x → SeenFirst f xs (n + 1) (vs ++ v ∷ [])
  seen_more n x d vs v inside is p new = record {
    so_far = map-append view vs (v ∷ []) ∙ ap (λ l. l ++ view v ∷ []) p.so_far
        ∙ ap (λ e. map f (take n xs) ++ e ∷ []) (new ∙ ap f is)
        ∙ sym (map-append f (take n xs) (get_or xs n d ∷ []))
        ∙ ap (map f) (sym (take_more xs n d inside));
  }

  -- and all of them as a list
  pub seen_all : (n : ℕ) (v : Vec Value Global) → length xs ≤ n → SeenFirst f xs n v.items
      → view (Array v) ≡ list_by f xs
  seen_all n v all p =
      view-Array v ∙ ap (λ ds. array (items_of ds)) (p.so_far ∙ ap (map f) (take_all n xs all))

-- a list of values for mapped elements
pub list_by-map : {X Y : Type 0} (f : Y → Data) (g : X → Y) (xs : List X)
    → list_by f (map g xs) ≡ list_by (λ x. f (g x)) xs
list_by-map f g xs = ap (λ ds. array (items_of ds)) (map-map f g xs)

-- ---- arrays under their names

-- together with those from the n-th on, these members are those of all arrays
pub record PutFirst {X : Type 0} (plain : X → PlainArray × List ℤ) (xs : List X) (n : ℕ) (ms : Members) : Type 0 where
  pub left : put_arrays (map plain (drop n xs)) ms ≡ put_arrays (map plain xs) no_members

module _ {X : Type 0} (plain : X → PlainArray × List ℤ) (xs : List X) where
  pub put_more : (n : ℕ) (x d : X) (ms : Members) → n < length xs → x ≡ get_or xs n d → PutFirst plain xs n ms
      → PutFirst plain xs (n + 1) (put (plain x).0.name (numbers_json (plain x).1) ms)
  put_more n x d ms inside is p =
      let next : drop n xs ≡ x ∷ drop (n + 1) xs =
      drop-cons xs n d inside ∙ ap (λ y. y ∷ drop (suc n) xs) (sym is) ∙ ap (λ m. x ∷ drop m xs) (sym (add-one n)) in
      record { left = sym (ap (λ l. put_arrays (map plain l) ms) next) ∙ p.left }

  pub put_all : (n : ℕ) (ms : Members) → length xs ≤ n → PutFirst plain xs n ms → ms ≡ put_arrays (map plain xs) no_members
  put_all n ms all p = sym (ap (λ l. put_arrays (map plain l) ms) (drop_all n xs all)) ∙ p.left

pub zip-map : {A B V W : Type 0} (u : A → V) (v : B → W) (xs : List A) (ys : List B)
    → zip (map u xs) (map v ys) ≡ map (λ (x, y). (u x, v y)) (zip xs ys)
zip-map u v [] ys = refl
zip-map u v (x ∷ xs) [] = refl
zip-map u v (x ∷ xs) (y ∷ ys) = ap (λ l. (u x, v y) ∷ l) (zip-map u v xs ys)
