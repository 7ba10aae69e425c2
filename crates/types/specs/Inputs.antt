-- Which inputs fit a program, what a JSON value gives for its arrays, and what is wrong if it gives
-- nothing.
use Rattle.std.specs.Prelude.{ℕ, ◌+◌, ◌≡◌, List, [], ◌∷◌, length, replicate, Bool, true, ℤ, pos, nat_eq}
use Rattle.std.specs.Prelude.{Option, Some, None, option_map, option_and_then, unwrap_or, Result, Ok, Err}
use Rattle.std.specs.Prelude.{ok_or, if◌then◌else◌}
use Rattle.std.specs.Str.{bytes_eq}
use Rattle.std.specs.List.{list_all, list_any}
use Rattle.std.specs.Ordering.{nat_cmp, match_ordering}
use Rattle.std.specs.Cmp.Lexicographic.{slice_cmp}
use Rattle.serde_json.specs.Data.{Data, null, boolean, number, string, array, object, Items, no_items, item}
use Rattle.serde_json.specs.Data.{Members, no_members, member}
use Rattle.serde_json.specs.Find.{as_number, as_i64, get_member}
use Rattle.serde_json.specs.Read.{read}
use Rattle.syntax_tree.specs.declared.tree.ElementType.{ElementType}
use Rattle.types.specs.Code.{Array}
use Rattle.types.specs.Value.{holds_number}

-- a mistake in an input; names are bytes
pub data Mistake : Type 0 where
  -- the text is no JSON
  NoJson : Mistake
  -- a value that is no object
  NoObject : Mistake
  -- a member that names no array
  Stranger : (name : List ℕ) → Mistake
  -- the number of lists isn't the number of arrays
  OtherCount : Mistake
  -- no list for the array, or one of another length
  OtherLength : (name : List ℕ) → Mistake
  -- an element that doesn't fit in the array's element type
  BadElement : (name : List ℕ) → Mistake

-- a list for an array: a number for each element, each of which fits in the element type
pub record IsRow (x : Array) (row : List ℤ) : Type 0 where
  pub long : length row ≡ x.length
  pub held : list_all (holds_number x.element) row ≡ true

-- one such list for each array, in the order of declaration
pub data IsInput : List Array → List (List ℤ) → Type 0 where
  no_more : IsInput [] []
  also : {x : Array} {xs : List Array} {row : List ℤ} {rows : List (List ℤ)} → IsRow x row → IsInput xs rows
      → IsInput (x ∷ xs) (row ∷ rows)

-- the mistake in a list for an array; its length is checked first
abbrev pub wrong_row : Array → List ℤ → Option Mistake
wrong_row x row =
    if nat_eq (length row) x.length
    then (if list_all (holds_number x.element) row then None else Some (BadElement x.name))
    else Some (OtherLength x.name)

-- the first mistake, if there is one
abbrev pub first_of : Option Mistake → Option Mistake → Option Mistake
first_of (Some m) rest = Some m
first_of None rest = rest

-- the mistake in lists for arrays; the first array with a mistake counts
abbrev pub wrong_rows : List Array → List (List ℤ) → Option Mistake
wrong_rows [] rows = None
wrong_rows (x ∷ xs) [] = None
wrong_rows (x ∷ xs) (row ∷ rows) = first_of (wrong_row x row) (wrong_rows xs rows)

-- the mistake in an input with these lists; their number is checked before any array
abbrev pub wrong_input : List Array → List (List ℤ) → Option Mistake
wrong_input arrays rows =
    if nat_eq (length rows) (length arrays) then wrong_rows arrays rows else Some OtherCount

-- the number of a JSON value, if it is a signed 64-bit integer that fits in the element type
abbrev pub number_in : ElementType → Data → Option ℤ
number_in t d =
    option_and_then (λ v. if holds_number t v then Some v else None) (option_and_then as_i64 (as_number d))

-- the numbers of a JSON list, if each of its elements is one
abbrev pub numbers_in : ElementType → Items → Option (List ℤ)
numbers_in t no_items = Some []
numbers_in t (item d ds) = option_and_then (λ v. option_map (λ vs. v ∷ vs) (numbers_in t ds)) (number_in t d)

-- the number of elements of a JSON list
abbrev pub items_count : Items → ℕ
items_count no_items = 0
items_count (item d ds) = items_count ds + 1

-- the list that a JSON list gives for an array
abbrev pub list_says : Array → Items → Result (List ℤ) Mistake
list_says x ds =
    if nat_eq (items_count ds) x.length then ok_or (numbers_in x.element ds) (BadElement x.name)
    else Err (OtherLength x.name)

-- the list that a JSON value gives for an array
abbrev pub value_says : Array → Data → Result (List ℤ) Mistake
value_says x null = Err (OtherLength x.name)
value_says x (boolean b) = Err (OtherLength x.name)
value_says x (number n) = Err (OtherLength x.name)
value_says x (string s) = Err (OtherLength x.name)
value_says x (array ds) = list_says x ds
value_says x (object ms) = Err (OtherLength x.name)

-- the list that the member with its name gives for an array; without such a member the array starts
-- with zeros
abbrev pub member_says : Array → Option Data → Result (List ℤ) Mistake
member_says x None = Ok (replicate x.length (pos 0))
member_says x (Some d) = value_says x d

-- both, or the first mistake
abbrev pub both : Result (List ℤ) Mistake → Result (List (List ℤ)) Mistake → Result (List (List ℤ)) Mistake
both (Err m) rows = Err m
both (Ok row) (Err m) = Err m
both (Ok row) (Ok rows) = Ok (row ∷ rows)

-- the lists that members give for arrays, where `get` returns the member with a name; the first
-- array with a mistake counts
abbrev pub members_say : (get : List ℕ → Option Data) → List Array → Result (List (List ℤ)) Mistake
members_say get [] = Ok []
members_say get (x ∷ xs) = both (member_says x (get x.name)) (members_say get xs)

-- whether an array has this name
abbrev pub is_named : List Array → List ℕ → Bool
is_named arrays name = list_any (λ x. bytes_eq x.name name) arrays

-- the names of members that name no array
abbrev pub strangers : List Array → Members → List (List ℕ)
strangers arrays no_members = []
strangers arrays (member name d ms) =
    if is_named arrays name then strangers arrays ms else name ∷ strangers arrays ms

-- the smaller of two names, in byte order
abbrev pub lesser : List ℕ → List ℕ → List ℕ
lesser a b = match_ordering (slice_cmp nat_cmp a b) a a b

-- the smallest name
abbrev pub least : List (List ℕ) → Option (List ℕ)
least [] = None
least (name ∷ names) = Some (unwrap_or (option_map (lesser name) (least names)) name)

-- the unknown name is the mistake, if there is one
abbrev pub after_stranger : Option (List ℕ) → Result (List (List ℤ)) Mistake → Result (List (List ℤ)) Mistake
after_stranger (Some name) rows = Err (Stranger name)
after_stranger None rows = rows

-- the lists that a JSON object gives for arrays; the smallest unknown name is checked before any
-- array
abbrev pub object_says : List Array → Members → Result (List (List ℤ)) Mistake
object_says arrays ms =
    after_stranger (least (strangers arrays ms)) (members_say (λ name. get_member name ms) arrays)

-- the lists that a JSON value gives for arrays
abbrev pub data_says : List Array → Data → Result (List (List ℤ)) Mistake
data_says arrays null = Err NoObject
data_says arrays (boolean b) = Err NoObject
data_says arrays (number n) = Err NoObject
data_says arrays (string s) = Err NoObject
data_says arrays (array ds) = Err NoObject
data_says arrays (object ms) = object_says arrays ms

-- the lists that the value that was read gives for arrays, if there is one
abbrev pub read_says : List Array → Option Data → Result (List (List ℤ)) Mistake
read_says arrays None = Err NoJson
read_says arrays (Some d) = data_says arrays d

-- the lists that a text gives for arrays
abbrev pub text_says : List Array → (text : List ℕ) → Result (List (List ℤ)) Mistake
text_says arrays text = read_says arrays (read text)
