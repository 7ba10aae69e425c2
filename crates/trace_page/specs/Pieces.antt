-- Values of JSON: numbers, lists and objects.
use Rattle.std.specs.Prelude.{ℕ, ℤ, negsuc, pos, List, [], ◌∷◌, map, Option, None, Some, Bool, ◌&&◌}
use Rattle.std.specs.Prelude.{if◌then◌else◌, int_le}
use Rattle.std.specs.Fmt.{signed_decimal}
use Rattle.serde_json.specs.Data.{Data, null, number, string, array, object, unsigned}
use Rattle.serde_json.specs.Data.{Members, no_members, member}
use Rattle.serde_json.specs.Find.{of_integer}
use Rattle.serde_json.specs.View.{items_of}

abbrev pub natural : ℕ → Data
natural n = number (unsigned n)

-- whether a browser, whose numbers have 53 bits, reads a number exactly
abbrev pub is_exact : ℤ → Bool
is_exact z = int_le (negsuc 9007199254740990) z && int_le z (pos 9007199254740991)

-- a value of the language: a number, or the text of its digits if a browser wouldn't read it exactly
abbrev pub value_json : ℤ → Data
value_json z = if is_exact z then number (of_integer z) else string (signed_decimal z)

abbrev pub list_of : List Data → Data
list_of ds = array (items_of ds)

-- a list with a value for each
abbrev pub list_by : {X : Type 0} → (X → Data) → List X → Data
list_by f xs = list_of (map f xs)

-- null if there is none
abbrev pub or_null : {X : Type 0} → (X → Data) → Option X → Data
or_null f None = null
or_null f (Some x) = f x

-- values under keys
abbrev pub members_by : List (List ℕ × Data) → Members
members_by [] = no_members
members_by (m ∷ ms) = member m.0 m.1 (members_by ms)

abbrev pub object_of : List (List ℕ × Data) → Data
object_of ms = object (members_by ms)
