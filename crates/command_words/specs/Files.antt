-- The files that an order names.
use Rattle.std.specs.Prelude.{ℕ, List, [], ◌∷◌, Bool, true, false, not, ◌&&◌, ◌||◌, Option, None, Some}
use Rattle.std.specs.Prelude.{nat_eq, if◌then◌else◌}
use Rattle.std.specs.Str.{bytes_eq}
use Rattle.command_line.specs.Requests.{Asked, file_of, source_file}

-- a name without all `./` in front: it names the same file
abbrev pub plain_name : List ℕ → List ℕ
plain_name (a ∷ b ∷ c ∷ behind) =
    if nat_eq a 46 && (nat_eq b 47 && not (nat_eq c 47)) then plain_name (c ∷ behind) else a ∷ b ∷ c ∷ behind
plain_name name = name

-- this name occurs among others
abbrev pub is_among : (name : List ℕ) → (others : List (Option (List ℕ))) → Bool
is_among name [] = false
is_among name (None ∷ others) = is_among name others
is_among name (Some other ∷ others) =
    bytes_eq (plain_name name) (plain_name other) || is_among name others

-- no name occurs there twice
abbrev pub all_differ : List (Option (List ℕ)) → Bool
all_differ [] = true
all_differ (None ∷ others) = all_differ others
all_differ (Some name ∷ others) = not (is_among name others) && all_differ others

-- the files that are named: those of the program, the initial contents of its arrays, choices, a trace, and
-- a picture
abbrev pub files_of : Asked → List (Option (List ℕ))
files_of a =
    let s = a.settings in Some a.file ∷ source_file s.input ∷ file_of s.choices ∷ s.trace ∷ s.picture ∷ []

-- no name is given twice, with or without `./` in front: no file is both read and written, and the standard
-- input is read once
abbrev pub names_once : Asked → Bool
names_once a = all_differ (files_of a)
