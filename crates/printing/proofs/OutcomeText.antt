-- The pieces of a line, and the text of an ending whose parts are given in other types.
use Rattle.std.proofs.Common.{◌≡◌, ◌<◌, ℕ, List, [], ◌∷◌, ◌++◌, map, length, get_or, refl, sym, ap, ◌∙◌, arith}
use Rattle.std.specs.Prelude.{ℤ, Bool, if◌then◌else◌}
use Rattle.std.specs.Fmt.{signed_decimal}
use Rattle.std.specs.List.{flat_map, zip}
use Rattle.std.proofs.lemmas.List.{append-nil}
use Rattle.std.proofs.lemmas.List.Folds.{flat_map-map}
use Rattle.std.proofs.lemmas.Slice.Zip.{get_or-zip, length-zip}
use Rattle.types.specs.Code.{Array}
use Rattle.types.specs.Run.{Fault}
use Rattle.printing.specs.OutcomeText.{space, joined_text, spaced_text, line_text, fault_text, array_text, ending_text}

-- the first value, and then each other after a space
pub joined_text-cons : (x : ℤ) (xs : List ℤ) → joined_text (x ∷ xs) ≡ signed_decimal x ++ spaced_text xs
joined_text-cons x [] = sym (append-nil (signed_decimal x))
joined_text-cons x (y ∷ ys) = ap (λ l. signed_decimal x ++ (space ∷ l)) (joined_text-cons y ys)

-- an element of both lists, and the pair at that position
pub zip_inside : {A B : Type 0} (xs : List A) (ys : List B) (n : ℕ) → n < length xs → n < length ys → n < length (zip xs ys)
zip_inside xs ys n left right = omega (arith, length-zip xs ys)

pub zip_at : {A B : Type 0} (xs : List A) (ys : List B) (n : ℕ) (x : A) (y : B) → n < length xs → n < length ys
    → x ≡ get_or xs n x → y ≡ get_or ys n y → (x, y) ≡ get_or (zip xs ys) n (x, y)
zip_at xs ys n x y left right x_is y_is =
    ap (λ z. (z, y)) x_is ∙ ap (λ z. (get_or xs n x, z)) y_is ∙ sym (get_or-zip xs ys n (x, y) left right)

module _ {A B V W : Type 0} (f : V × W → List ℕ) (u : A → V) (v : B → W) where
  pub flat_map-zip-map : (xs : List A) (ys : List B)
      → flat_map f (zip (map u xs) (map v ys)) ≡ flat_map (λ (x, y). f (u x, v y)) (zip xs ys)
  flat_map-zip-map [] ys = refl
  flat_map-zip-map (x ∷ xs) [] = refl
  flat_map-zip-map (x ∷ xs) (y ∷ ys) = ap (λ l. f (u x, v y) ++ l) (flat_map-zip-map xs ys)

module _ {A V F : Type 0} (array : A → Array) (numbers : V → List ℤ) (fault : F → Fault) where
  pub ending_text-map : (declared : List A) (arrays : Bool) (contents lines : List V) (faults : List F)
      → ending_text (map array declared) arrays
      (record { arrays = map numbers contents; lines = map numbers lines; faults = map fault faults })
      ≡ flat_map (λ line. line_text (numbers line)) lines ++ flat_map (λ f. fault_text (fault f)) faults
      ++ (if arrays then flat_map (λ (a, elements). array_text (array a, numbers elements)) (zip declared contents) else [])
  ending_text-map declared arrays contents lines faults =
      ap (λ l. l ++ flat_map fault_text (map fault faults)
      ++ (if arrays then flat_map array_text (zip (map array declared) (map numbers contents)) else []))
      (flat_map-map line_text numbers lines)
      ∙ ap (λ l. flat_map (λ line. line_text (numbers line)) lines ++ l
      ++ (if arrays then flat_map array_text (zip (map array declared) (map numbers contents)) else []))
      (flat_map-map fault_text fault faults)
      ∙ ap (λ l. flat_map (λ line. line_text (numbers line)) lines ++ flat_map (λ f. fault_text (fault f)) faults
      ++ (if arrays then l else [])) (flat_map-zip-map array_text array numbers declared contents)
