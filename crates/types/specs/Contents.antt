-- The number at each place, and the lists of these numbers.
use Rattle.std.specs.Prelude.{ℕ, zero, suc, ◌+◌, ◌≡◌, List, [], ◌∷◌, length, ℤ, pos, Option, None, Some}
use Rattle.std.specs.Prelude.{unwrap_or, slice_get, slice_index_or, if◌then◌else◌}
use Rattle.types.specs.Code.{Array}
use Rattle.sections.specs.Place.{Place, same_place}

-- a number for each existing place
abbrev pub Contents : Type 0
Contents = Place → Option ℤ

-- the number at a place; 0 if the place doesn't exist
abbrev pub read : Contents → Place → ℤ
read c q = unwrap_or (c q) (pos 0)

-- the contents with the number v at the place q
abbrev pub write : Place → ℤ → Contents → Contents
write q v c other = if same_place q other then Some v else c other

-- there is a number
abbrev pub IsThere : Option ℤ → Type 0
IsThere None = ⊥
IsThere (Some v) = Unit {0}

-- the second has a number at each place where the first has one
abbrev pub Extends : (c d : Contents) → Type 0
Extends c d = (q : Place) → IsThere (c q) → IsThere (d q)

-- the contents of lists, one for each array
abbrev pub held_by : List (List ℤ) → Contents
held_by arrays q = slice_get (slice_index_or arrays q.array []) q.index

-- the n numbers of an array that start at the place `at`
abbrev pub row : Contents → (array at n : ℕ) → List ℤ
row c array at zero = []
row c array at (suc n) = read c (record { array = array; index = at }) ∷ row c array (at + 1) n

-- the numbers of arrays, the first of which has the number `array`
abbrev pub rows : Contents → (array : ℕ) → List Array → List (List ℤ)
rows c array [] = []
rows c array (x ∷ xs) = row c array 0 x.length ∷ rows c (array + 1) xs

-- the numbers of all arrays, in the order of declaration
abbrev pub shown : List Array → Contents → List (List ℤ)
shown arrays c = rows c 0 arrays

-- one list for each array, with a number for each element
pub data FitsArrays : List Array → List (List ℤ) → Type 0 where
  no_more : FitsArrays [] []
  also : {x : Array} {xs : List Array} {row : List ℤ} {rows : List (List ℤ)} → length row ≡ x.length
      → FitsArrays xs rows → FitsArrays (x ∷ xs) (row ∷ rows)
