-- Worked examples, computed by the definitions.
use Rattle.std.proofs.Common.{◌≡◌, ℕ, List, [], ◌∷◌, Some, None, refl}
use Rattle.std.specs.Prelude.{true, false}
use Rattle.sections.specs.Covers.{is_cover}
use Rattle.sections.specs.Origins.{Origin, Root, Left, Right, Piece}
use Rattle.sections.specs.Overlap.{overlap}
use Rattle.sections.specs.Place.{Window, piece_of}
use Rattle.sections.proofs.Covering.{joined_from}
use Rattle.sections.proofs.Cutting.{minus}

abbrev window : (array at length : ℕ) → Window
window a at n = record { array = a; at = at; length = n }

-- arrays 0 and 1; `split 0 at .. as 2, 3`, then `split 0 at .. as 4, 5`, and `split 2 at .. as 6, 7`
abbrev origins : List Origin
origins = Root ∷ (Root ∷ (Left 0 ∷ (Right 0 ∷ (Left 0 ∷ (Right 0 ∷ (Left 2 ∷ (Right 2 ∷ [])))))))

two_arrays : overlap origins 0 1 ≡ false
two_arrays = refl

sides_of_one_split : overlap origins 2 3 ≡ false
sides_of_one_split = refl

sides_of_two_splits : overlap origins 2 5 ≡ true
sides_of_two_splits = refl

left_sides_of_two_splits : overlap origins 2 4 ≡ true
left_sides_of_two_splits = refl

side_of_a_side : overlap origins 7 3 ≡ false
side_of_a_side = refl

side_of_a_side_and_another_split : overlap origins 7 5 ≡ true
side_of_a_side_and_another_split = refl

array_and_side_of_a_side : overlap origins 0 7 ≡ true
array_and_side_of_a_side = refl

-- array 0; `split 0 at .. as 1, 2`; `parts 0 by .. as 3`, and in it `parts 3 by .. as 4`; `parts 0 by .. as 5`;
-- `parts 1 by .. as 6`
abbrev cut : List Origin
cut = Root ∷ (Left 0 ∷ (Right 0 ∷ (Piece 0 ∷ (Piece 3 ∷ (Piece 0 ∷ (Piece 1 ∷ []))))))

piece_and_array : overlap cut 3 0 ≡ true
piece_and_array = refl

piece_and_itself : overlap cut 3 3 ≡ true
piece_and_itself = refl

piece_and_side : overlap cut 3 1 ≡ true
piece_and_side = refl

pieces_of_two_statements : overlap cut 3 5 ≡ true
pieces_of_two_statements = refl

piece_of_a_piece : overlap cut 4 5 ≡ true
piece_of_a_piece = refl

piece_of_a_side_and_the_other_side : overlap cut 6 2 ≡ false
piece_of_a_side_and_the_other_side = refl

-- ten places by 4: two pieces of 4 and one of 2
first_piece : piece_of (window 0 5 10) 4 0 ≡ Some (window 0 5 4)
first_piece = refl

short_piece : piece_of (window 0 5 10) 4 2 ≡ Some (window 0 13 2)
short_piece = refl

no_fourth_piece : piece_of (window 0 5 10) 4 3 ≡ None
no_fourth_piece = refl

-- eight places by 4: the second piece is the last
no_piece_behind : piece_of (window 0 0 8) 4 2 ≡ None
no_piece_behind = refl

larger_than_the_window : piece_of (window 0 0 3) 9223372036854775807 0 ≡ Some (window 0 0 3)
larger_than_the_window = refl

no_piece_of_nothing : piece_of (window 0 0 0) 1 0 ≡ None
no_piece_of_nothing = refl

no_size : piece_of (window 0 0 3) 0 0 ≡ None
no_size = refl

-- the product isn't taken in 64 bits
large_product : piece_of (window 0 0 3) 9223372036854775808 2 ≡ None
large_product = refl

-- windows that touch are joined
touching : joined_from (window 0 0 2) (window 0 2 2 ∷ []) ≡ window 0 0 4 ∷ []
touching = refl

-- and they stay separate in no cover
not_joined : is_cover (window 0 0 2 ∷ (window 0 2 2 ∷ [])) ≡ false
not_joined = refl

-- windows of two arrays are never joined
two_arrays_are_parted : joined_from (window 0 0 2) (window 1 2 2 ∷ []) ≡ window 0 0 2 ∷ (window 1 2 2 ∷ [])
two_arrays_are_parted = refl

-- a hole in the middle
hole : minus (window 0 0 4 ∷ []) (window 0 1 2 ∷ []) ≡ window 0 0 1 ∷ (window 0 3 1 ∷ [])
hole = refl

-- windows that span several others
several : minus (window 0 0 3 ∷ (window 0 5 4 ∷ (window 1 0 2 ∷ []))) (window 0 2 4 ∷ (window 0 8 9 ∷ []))
    ≡ window 0 0 2 ∷ (window 0 6 2 ∷ (window 1 0 2 ∷ []))
several = refl
