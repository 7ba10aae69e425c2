-- The values of a list so far.
use Rattle.std.proofs.Common.{◌≡◌, ◌<◌, ◌≤◌, ◌+◌, ℕ, List, [], ◌∷◌, ◌++◌, length, map, take, get_or, sym}
use Rattle.std.proofs.Common.{ap, ◌∙◌, Vec, Global, take_all}
use Rattle.std.proofs.lemmas.List.{map-append, take_more}
use Rattle.std.proofs.lemmas.Simd.{map-map}
use Rattle.serde_json.specs.Data.{Data, array}
use Rattle.serde_json.specs.View.{view, items_of}
use Rattle.serde_json.specs.declared.value.Value.{Value, Array}
use Rattle.serde_json.proofs.Views.{view-Array}
use Rattle.trace_page.specs.Pieces.{list_by}

-- the values that represent the first n of these
pub record SeenFirst {X : Type 0} (f : X → Data) (xs : List X) (n : ℕ) (vs : List Value) : Type 0 where
  pub so_far : map view vs ≡ map f (take n xs)

module _ {X : Type 0} (f : X → Data) (xs : List X) where
  -- one more
  pub seen_more : (n : ℕ) (x d : X) (vs : List Value) (v : Value) → n < length xs → x ≡ get_or xs n d
      → SeenFirst f xs n vs → view v ≡ f x → SeenFirst f xs (n + 1) (vs ++ v ∷ [])
  seen_more n x d vs v inside is p new = record {
    so_far = map-append view vs (v ∷ []) ∙ ap (λ l. l ++ view v ∷ []) p.so_far
        ∙ ap (λ e. map f (take n xs) ++ e ∷ []) (new ∙ ap f is)
        ∙ sym (map-append f (take n xs) (get_or xs n d ∷ []))
        ∙ ap (map f) (sym (take_more xs n d inside));
  }

  -- and all of them as a list
  pub seen_all : (n : ℕ) (v : Vec Value Global) → length xs ≤ n → SeenFirst f xs n v.items
      → view (Array v) ≡ list_by f xs
  seen_all n v all p =
      view-Array v ∙ ap (λ ds. array (items_of ds)) (p.so_far ∙ ap (map f) (take_all n xs all))

-- a list of values for mapped elements
pub list_by-map : {X Y : Type 0} (f : Y → Data) (g : X → Y) (xs : List X)
    → list_by f (map g xs) ≡ list_by (λ x. f (g x)) xs
list_by-map f g xs = ap (λ ds. array (items_of ds)) (map-map f g xs)
