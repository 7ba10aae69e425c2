-- The pieces of error messages.
use Rattle.std.specs.Prelude.{ℕ, ◌+◌, ◌/◌, ◌%◌, List, [], ◌∷◌, ◌++◌, codes}
use Rattle.std.specs.Prelude.{chars, encode_utf8, if◌then◌else◌, nat_lt}
use Rattle.std.specs.Char.{is_control}
use Rattle.std.specs.List.{flat_map}
use Rattle.std.specs.String.{string_bytes}
use Rattle.types.specs.InputErrors.{error_text}
use Rattle.types.specs.declared.input_error.InputError.{InputError}
use Rattle.types.specs.declared.input_error.InputError.TheVariants.{UnknownArray}

-- ---- names from outside

-- a hexadecimal digit
abbrev pub digit : ℕ → ℕ
digit n = if nat_lt n 10 then 48 + n else 87 + n

-- a character of a name: a control character is escaped by its number, as in `\x1b`
abbrev pub escaped_character : ℕ → List ℕ
escaped_character c =
    if is_control c
    then codes "\\x" ++ (digit (c / 16) ∷ digit (c % 16) ∷ []) else encode_utf8 c

abbrev pub escaped : List ℕ → List ℕ
escaped name = flat_map escaped_character (chars name)

-- an input error: the name of a member can have any characters, that of an array has no control
-- characters
abbrev pub input_text : InputError → List ℕ
input_text (UnknownArray name) = codes "N3 " ++ escaped (string_bytes name)
input_text e = error_text e
