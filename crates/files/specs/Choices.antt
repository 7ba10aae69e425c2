-- The choices in a list: decimal numbers separated by commas. In a file, they can also be separated
-- by white space.
use Rattle.std.specs.Prelude.{ℕ, ◌+◌, ◌-◌, ◌*◌, List, [], ◌∷◌, ◌++◌, length, Bool, ◌||◌, if◌then◌else◌}
use Rattle.std.specs.Prelude.{nat_eq, nat_lt, Option, Some, None, option_map, unwrap_or}
use Rattle.files.specs.declared.choices.ChoicesSoFar.{ChoicesSoFar as rReading}

-- what was read so far: the numbers before the last comma, and the one after it, if that has a
-- digit
pub record Reading : Type 0 where
  pub before : List ℕ
  pub number : Option ℕ

abbrev pub reading_of : rReading → Reading
reading_of r = record { before = r.before.items; number = r.number }

-- a number of at most 4294967295
abbrev pub small : ℕ → Option ℕ
small n = if nat_lt 4294967295 n then None else Some n

-- a number with one more digit
abbrev pub with_digit : (number : Option ℕ) → (byte : ℕ) → Option ℕ
with_digit number byte =
    if nat_lt byte 48 || nat_lt 57 byte then None
    else small (unwrap_or number 0 * 10 + (byte - 48))

-- all numbers, if the last one has a digit
abbrev pub numbers_of : Reading → Option (List ℕ)
numbers_of r = option_map (λ n. r.before ++ n ∷ []) r.number

-- after a comma
abbrev pub behind_comma : (numbers : List ℕ) → Reading
behind_comma numbers = record { before = numbers; number = None }

-- with another number after the last comma
abbrev pub renumbered : Reading → (number : ℕ) → Reading
renumbered r number = record { before = r.before; number = Some number }

-- after one more byte: a comma after a number, or a digit
abbrev pub with_byte : Reading → (byte : ℕ) → Option Reading
with_byte r byte =
    if nat_eq byte 44 then option_map behind_comma (numbers_of r)
    else option_map (renumbered r) (with_digit r.number byte)

abbrev pub goes_on : (Reading → Option (List ℕ)) → Option Reading → Option (List ℕ)
goes_on go None = None
goes_on go (Some r) = go r

-- the numbers that were read, with those in the bytes that follow
abbrev pub read_from : Reading → List ℕ → Option (List ℕ)
read_from r [] = numbers_of r
read_from r (byte ∷ behind) = goes_on (λ s. read_from s behind) (with_byte r byte)

-- nothing was read yet
abbrev pub nothing_read : Reading
nothing_read = record { before = []; number = None }

-- the choices in a text: at least one number, unless the text is empty
abbrev pub said_by : List ℕ → Option (List ℕ)
said_by [] = Some []
said_by (byte ∷ behind) = read_from nothing_read (byte ∷ behind)

-- ---- in a file

-- a tab, an end of a line, a space or a comma
abbrev pub separates : (byte : ℕ) → Bool
separates byte =
    nat_eq byte 9 || (nat_eq byte 10 || (nat_eq byte 13 || (nat_eq byte 32 || nat_eq byte 44)))

-- the numbers before, and the last one, if it has a digit
abbrev pub with_begun : (before : List ℕ) → (number : Option ℕ) → List ℕ
with_begun before None = before
with_begun before (Some n) = before ++ n ∷ []

-- after one more byte: a separator, or a digit
abbrev pub with_byte_of_file : Reading → (byte : ℕ) → Option Reading
with_byte_of_file r byte =
    if separates byte then Some (behind_comma (with_begun r.before r.number))
    else option_map (renumbered r) (with_digit r.number byte)

-- the numbers that were read, with those in the bytes that follow
abbrev pub read_of_file : Reading → List ℕ → Option (List ℕ)
read_of_file r [] = Some (with_begun r.before r.number)
read_of_file r (byte ∷ behind) = goes_on (λ s. read_of_file s behind) (with_byte_of_file r byte)

-- the choices in the bytes of a file, if there are at most this many bytes
abbrev pub filed_within : (most : ℕ) → List ℕ → Option (List ℕ)
filed_within most bytes =
    if nat_lt most (length bytes) then None else read_of_file nothing_read bytes

-- the choices in the bytes of a file
abbrev pub filed_by : List ℕ → Option (List ℕ)
filed_by bytes = filed_within 16777216 bytes
