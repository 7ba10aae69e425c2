-- A write to a list of a store is a write to its place.
use Rattle.std.proofs.Common.{◌≡◌, ℕ, zero, suc, ◌<◌, List, [], ◌∷◌, length, get_or, Vec, Global, sym, ap, ◌∙◌, subst, arith}
use Rattle.std.proofs.lemmas.List.{map-set, length-set}
use Rattle.std.proofs.Math.Seq.{map-set_same}
use Rattle.std.specs.Prelude.{ℤ, map, slice_set, slice_index_or}
use Rattle.std.specs.Vec.{with_item}
use Rattle.types.specs.Contents.{held_by, write}
use Rattle.types.proofs.Lists.{held_by-slice_set}

abbrev Row : Type 0
Row = Vec ℤ Global

abbrev numbers : Row → List ℤ
numbers v = v.items

row_at : (rows : List Row) (a : ℕ) (row : Row) → a < length rows → row ≡ get_or rows a row
    → slice_index_or (map numbers rows) a [] ≡ row.items
row_at [] a row lt at = absurd (omega (arith, lt))
row_at (r ∷ rows) zero row lt at = sym (ap numbers at)
row_at (r ∷ rows) (suc a) row lt at = row_at rows a row (omega (arith, lt)) at

-- if a place exists, its array exists
pub array_is_there : (rows : List Row) (a i : ℕ) → i < length (slice_index_or (map numbers rows) a []) → a < length rows
array_is_there [] a i lt = absurd (omega (arith, lt))
array_is_there (r ∷ rows) zero i lt = omega arith
array_is_there (r ∷ rows) (suc a) i lt = omega (arith, array_is_there rows a i lt)

-- and the place in the array's row exists
pub place_is_there : (rows : List Row) (row : Row) (a i : ℕ) → i < length (slice_index_or (map numbers rows) a [])
    → row ≡ get_or rows a row → i < length row.items
place_is_there rows row a i lt at = subst (λ l. i < length l) (row_at rows a row (array_is_there rows a i lt) at) lt

pub held_by-with_item : (rows : List Row) (row : Row) (a i : ℕ) (v z : ℤ) → a < length rows → row ≡ get_or rows a row
    → i < length row.items → z ≡ v
    → held_by (map numbers (slice_set rows a (with_item row i z))) ≡ write (record { array = a; index = i }) v (held_by (map numbers rows))
held_by-with_item rows row a i v z there at lt e =
    let same = row_at rows a row there at in
    let inside : i < length (slice_index_or (map numbers rows) a []) = subst (λ l. i < length l) (sym same) lt in
    ap held_by (map-set numbers rows a (with_item row i z)
    ∙ ap (λ l. slice_set (map numbers rows) a (slice_set l i z)) (sym same)
    ∙ ap (λ x. slice_set (map numbers rows) a (slice_set (slice_index_or (map numbers rows) a []) i x)) e)
    ∙ held_by-slice_set (map numbers rows) a i v inside

-- no array gets longer or shorter
pub lengths-with_item : (rows : List Row) (row : Row) (a i : ℕ) (z : ℤ) → row ≡ get_or rows a row
    → map length (map numbers (slice_set rows a (with_item row i z))) ≡ map length (map numbers rows)
lengths-with_item rows row a i z at =
    ap (map length) (map-set numbers rows a (with_item row i z))
    ∙ map-set length (map numbers rows) a (slice_set row.items i z)
    ∙ ap (slice_set (map length (map numbers rows)) a) (length-set row.items i z)
    ∙ sym (map-set length (map numbers rows) a row.items)
    ∙ ap (map length) (sym (map-set numbers rows a row) ∙ map-set_same numbers rows a row row (ap numbers at))
