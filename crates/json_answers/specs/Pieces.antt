-- Values of JSON: numbers, lists and objects, and the line of a value.
use Rattle.std.specs.Prelude.{ℕ, ℤ, ◌≡◌, List, [], ◌∷◌, ◌++◌, codes, map, Option, None, Some}
use Rattle.serde_json.specs.Data.{Data, null, number, array, object, unsigned, Members, no_members, member}
use Rattle.serde_json.specs.Find.{of_integer}
use Rattle.serde_json.specs.Read.{read}
use Rattle.serde_json.specs.View.{items_of}
use Rattle.serde_json.specs.Written.{compact_text}

abbrev pub natural : ℕ → Data
natural n = number (unsigned n)

abbrev pub integer : ℤ → Data
integer z = number (of_integer z)

-- a list with a value for each
abbrev pub list_by : {X : Type 0} → (X → Data) → List X → Data
list_by f xs = array (items_of (map f xs))

-- null if there is none
abbrev pub or_null : {X : Type 0} → (X → Data) → Option X → Data
or_null f None = null
or_null f (Some x) = f x

-- values under keys
abbrev pub members_by : List (List ℕ × Data) → Members
members_by [] = no_members
members_by (m ∷ ms) = member m.0 m.1 (members_by ms)

abbrev pub object_of : List (List ℕ × Data) → Data
object_of ms = object (members_by ms)

-- the compact text of a value, and a line feed
unfoldable pub line : Data → List ℕ
line d = compact_text d ++ codes "\n"

-- the compact text of a value is parsed as that value
abbrev pub IsReadBack : Data → Type 0
IsReadBack d = read (compact_text d) ≡ Some d
