-- A text inside an element of a page.
use Rattle.std.specs.Prelude.{ℕ, List, chars, codes, encode_utf8, if◌then◌else◌, nat_eq}
use Rattle.std.specs.List.{flat_map}

-- `<` by its number, which JSON reads as the same character in a string
abbrev pub escaped_character : ℕ → List ℕ
escaped_character c = if nat_eq c 60 then codes "\\u003c" else encode_utf8 c

-- the text without any `<`
abbrev pub escaped : (text : List ℕ) → List ℕ
escaped text = flat_map escaped_character (chars text)
