-- What is known about files, and what reading them returns.
use Rattle.std.specs.Prelude.{ℕ, ℤ, pos, ◌≡◌, ◌≢◌, ◌<◌, ◌≤◌, List, [], ◌∷◌, ◌++◌, codes, length, map}
use Rattle.std.specs.Prelude.{Bool, true, nat_eq, replicate, take, if◌then◌else◌}
use Rattle.std.specs.Prelude.{Option, None, Some, Result, Ok, Err, IfSome}
use Rattle.std.specs.Fmt.{decimal}
use Rattle.std.specs.List.{after_first, before_first, flat_map}
use Rattle.std.specs.Str.{IsUtf8, bytes_eq}
use Rattle.std.specs.String.{string_bytes}
use Rattle.syntax.specs.declared.error.SyntaxError.TheVariants.{TooLong}
use Rattle.types.specs.Code.{Array}
use Rattle.types.specs.InputErrors.{told}
use Rattle.types.specs.Inputs.{Mistake, Stranger, is_named, text_says, wrong_input}
use Rattle.types.specs.declared.input_error.InputError.{InputError}
use Rattle.command_line.specs.Lists.{lists_in}
use Rattle.command_line.specs.Requests.{Source, FromFile, FromLists, FromBytes, source_file}
use Rattle.failures.specs.declared.failure.Failure.{Failure}
use Rattle.failures.specs.declared.failure.Failure.TheVariants.{CannotRead, NotUtf8, Syntax, Input, NoMemory}
use Rattle.files.specs.declared.file_source.FileError.{FileError}
use Rattle.files.specs.declared.file_source.FileError.TheVariants.{Failed as Unread}
use Rattle.files.specs.declared.file_source.FileError.TheVariants.{NoMemory as NoMemoryInFile}

-- the bytes of a file, or why there are none
abbrev pub Bytes : Type 0
Bytes = Result (List ℕ) FileError

-- what is known about the contents of each name: None if nothing is known
abbrev pub Held : Type 0
Held = List ℕ → Option Bytes

-- a file whose contents are known is returned as it is, unless memory runs out
abbrev pub IsGiven : (known : Option Bytes) → Bytes → Type 0
IsGiven None given = Unit {0}
IsGiven (Some known) given = given ≢ Err NoMemoryInFile → given ≡ known

-- after the file with this name was written, nothing changes about the other files
abbrev pub KeepsOthers : (name : List ℕ) → (old new : Held) → Type 0
KeepsOthers name old new = (other : List ℕ) → other ≢ name → new other ≡ old other

-- what reading at most this many bytes of a file returns
abbrev pub first : (most : ℕ) → Bytes → Bytes
first most (Ok bytes) = Ok (take most bytes)
first most (Err e) = Err e

-- the file with this name has this text
pub record HasText (held : Held) (name text : List ℕ) : Type 0 where
  pub given : IsGiven (held name) (Ok text)
  pub is_text : IsUtf8 text

-- the file with this name has bytes that aren't UTF-8
pub record HasNoText (held : Held) (name : List ℕ) : Type 0 where
  pub bytes : List ℕ
  pub given : IsGiven (held name) (Ok bytes)
  pub no_text : ¬ IsUtf8 bytes

-- the failure says why a file with this name has no text, unless memory runs out
abbrev pub TellsNoText : Held → (name : List ℕ) → Failure → Type 0
TellsNoText held name (CannotRead told) = (string_bytes told ≡ name) × IsGiven (held name) (Err Unread)
TellsNoText held name (NotUtf8 told) = (string_bytes told ≡ name) × HasNoText held name
TellsNoText held name NoMemory = Unit {0}
TellsNoText held name _ = ⊥

-- ---- programs

-- the file with this name has more bytes than a program can have
pub record IsTooLong (held : Held) (name : List ℕ) : Type 0 where
  pub bytes : List ℕ
  pub given : IsGiven (held name) (Ok bytes)
  pub long : 1048576 < length bytes

-- the file with this name has bytes that aren't UTF-8, and not too many for a program
pub record HasNoProgramText (held : Held) (name : List ℕ) : Type 0 where
  pub bytes : List ℕ
  pub given : IsGiven (held name) (Ok bytes)
  pub short : length bytes ≤ 1048576
  pub no_text : ¬ IsUtf8 bytes

-- the failure says why a file with this name has no program text, unless memory runs out
abbrev pub TellsNoProgram : Held → (name : List ℕ) → Failure → Type 0
TellsNoProgram held name (CannotRead told) = TellsNoText held name (CannotRead told)
TellsNoProgram held name (NotUtf8 told) = (string_bytes told ≡ name) × HasNoProgramText held name
TellsNoProgram held name (Syntax TooLong) = IsTooLong held name
TellsNoProgram held name NoMemory = Unit {0}
TellsNoProgram held name _ = ⊥

-- ---- inputs

-- a zero for each element of each array
abbrev pub zeros : List Array → List (List ℤ)
zeros arrays = map (λ a. replicate a.length (pos 0)) arrays

-- a number in decimal after a comma
abbrev pub after_comma : ℕ → List ℕ
after_comma n = codes "," ++ decimal n

-- numbers in decimal, with commas between them
abbrev pub joined : List ℕ → List ℕ
joined [] = []
joined (n ∷ ns) = decimal n ++ flat_map after_comma ns

-- an array with these elements, as a member of a JSON object: `"a":[1,2,3]`
abbrev pub member_of : (name elements : List ℕ) → List ℕ
member_of name elements = codes "\"" ++ (name ++ (codes "\":[" ++ (elements ++ codes "]")))

abbrev pub is_equals : ℕ → Bool
is_equals b = nat_eq b 61

-- the same of a list: `a=1,2,3`
abbrev pub member : (list : List ℕ) → List ℕ
member l = member_of (before_first is_equals l) (after_first is_equals l)

-- the member of a list after this text, if there is a list, and the text before the next member
abbrev pub shown : (before : List ℕ) → (list : Option (List ℕ)) → List ℕ
shown before None = []
shown before (Some l) = before ++ member l

abbrev pub behind_list : (before : List ℕ) → (list : Option (List ℕ)) → List ℕ
behind_list before None = before
behind_list before (Some l) = codes ","

-- the members of lists, the first after this text and the others after commas
abbrev pub members : (before : List ℕ) → (lists : List (List ℕ)) → List ℕ
members before [] = []
members before (l ∷ ls) = before ++ (member l ++ members (codes ",") ls)

-- the JSON text of an object with these members
abbrev pub object_text : (members : List ℕ) → List ℕ
object_text ms = codes "{" ++ (ms ++ codes "}")

-- the JSON text of the lists among arguments: `{"a":[1,2,3],"b":[4]}` of `--set a=1,2,3 --set b=4`
abbrev pub lists_text : (words : List (List ℕ)) → List ℕ
lists_text words = object_text (members [] (lists_in words))

-- the JSON text of one array whose elements are these bytes
abbrev pub bytes_text : (name bytes : List ℕ) → List ℕ
bytes_text name bytes = object_text (member_of name (joined bytes))

-- this is the JSON text of a source: that of its file, or that of its lists; bytes have none
abbrev pub HasJson : Held → Source → (text : List ℕ) → Type 0
HasJson held (FromFile name) text = HasText held name text
HasJson held (FromLists words) text = text ≡ lists_text words
HasJson held (FromBytes name file) text = ⊥

-- a JSON text has these lists for the arrays
abbrev pub SaysText : (text : List ℕ) → List Array → (lists : List (List ℤ)) → Type 0
SaysText text arrays lists = text_says arrays text ≡ Ok lists

-- a JSON text has this error, or memory ran out
abbrev pub HasMistakeIn : (text : List ℕ) → List Array → Failure → Type 0
HasMistakeIn text arrays (Input e) = IfSome (told e) (λ m. text_says arrays text ≡ Err m)
HasMistakeIn text arrays NoMemory = Unit {0}
HasMistakeIn text arrays _ = ⊥

-- a source has a JSON text with these lists for the arrays
pub record SaysJson (held : Held) (source : Source) (arrays : List Array) (lists : List (List ℤ))
    : Type 0 where
  pub text : List ℕ
  pub has_text : HasJson held source text
  pub says : SaysText text arrays lists

-- the lists in which the array with this name has these bytes, and the other arrays have zeros
abbrev pub with_bytes : (name bytes : List ℕ) → List Array → List (List ℤ)
with_bytes name bytes arrays =
    map (λ a. if bytes_eq a.name name then map pos bytes else replicate a.length (pos 0)) arrays

-- the mistake in these lists: no array has the name, or one has another length
abbrev pub wrong_bytes : (name bytes : List ℕ) → List Array → Option Mistake
wrong_bytes name bytes arrays =
    if is_named arrays name then wrong_input arrays (with_bytes name bytes arrays) else Some (Stranger name)

-- the failure has this mistake, or memory ran out
abbrev pub HasMistakeOf : Option Mistake → Failure → Type 0
HasMistakeOf mistake (Input e) = IfSome (told e) (λ m. mistake ≡ Some m)
HasMistakeOf mistake NoMemory = Unit {0}
HasMistakeOf mistake _ = ⊥

-- an array has the name, and these lists have the bytes for it
abbrev pub HoldBytes : (name bytes : List ℕ) → List Array → (lists : List (List ℤ)) → Type 0
HoldBytes name bytes arrays lists = (is_named arrays name ≡ true) × (lists ≡ with_bytes name bytes arrays)

-- the lists have the bytes of a file for the array with this name
pub record SaysBytes (held : Held) (name file : List ℕ) (arrays : List Array) (lists : List (List ℤ))
    : Type 0 where
  pub bytes : List ℕ
  pub given : IsGiven (held file) (Ok bytes)
  pub says : HoldBytes name bytes arrays lists

-- a source has these lists for the arrays
abbrev pub Says : Held → Source → List Array → List (List ℤ) → Type 0
Says held (FromFile name) arrays lists = SaysJson held (FromFile name) arrays lists
Says held (FromLists words) arrays lists = SaysJson held (FromLists words) arrays lists
Says held (FromBytes name file) arrays lists = SaysBytes held name file arrays lists

-- the initial contents of the arrays: zeros, or the lists of the source
abbrev pub BeginsWith : (input : Option Source) → Held → List Array → List (List ℤ) → Type 0
BeginsWith None held arrays lists = lists ≡ zeros arrays
BeginsWith (Some source) held arrays lists = Says held source arrays lists

-- a source has a JSON text with this error, or memory ran out
pub record HasMistakeInJson (held : Held) (source : Source) (arrays : List Array) (e : InputError)
    : Type 0 where
  pub text : List ℕ
  pub has_text : HasJson held source text
  pub mistake : IfSome (told e) (λ m. text_says arrays text ≡ Err m)

-- the bytes of a file have this error as an input, or memory ran out
pub record HasMistakeInBytes (held : Held) (name file : List ℕ) (arrays : List Array) (e : InputError)
    : Type 0 where
  pub bytes : List ℕ
  pub given : IsGiven (held file) (Ok bytes)
  pub mistake : IfSome (told e) (λ m. wrong_bytes name bytes arrays ≡ Some m)

-- a source has this error, or memory ran out
abbrev pub HasMistake : Held → Source → List Array → InputError → Type 0
HasMistake held (FromFile name) arrays e = HasMistakeInJson held (FromFile name) arrays e
HasMistake held (FromLists words) arrays e = HasMistakeInJson held (FromLists words) arrays e
HasMistake held (FromBytes name file) arrays e = HasMistakeInBytes held name file arrays e

-- there is a source of an input, and this is true of it
pub record HasSource (input : Option Source) (P : Source → Type 0) : Type 0 where
  pub source : Source
  pub given : input ≡ Some source
  pub fact : P source

-- it names a file, and this is true of its name
pub record NamesFile (input : Option Source) (P : List ℕ → Type 0) : Type 0 where
  pub name : List ℕ
  pub named : source_file input ≡ Some name
  pub fact : P name

-- the failure says why there is no input, unless memory runs out
abbrev pub TellsNoInput : (input : Option Source) → Held → List Array → Failure → Type 0
TellsNoInput input held arrays (CannotRead told) =
    NamesFile input (λ name. TellsNoText held name (CannotRead told))
TellsNoInput input held arrays (NotUtf8 told) =
    HasSource input (λ source. (name : List ℕ) × (source ≡ FromFile name)
    × TellsNoText held name (NotUtf8 told))
TellsNoInput input held arrays (Input e) = HasSource input (λ source. HasMistake held source arrays e)
TellsNoInput input held arrays NoMemory = Unit {0}
TellsNoInput input held arrays _ = ⊥
