-- The lines in which two texts differ, with up to three equal lines before and after them.
use Rattle.std.specs.Prelude.{ℕ, ◌+◌, ◌-◌, ◌==◌, ◌||◌, List, [], ◌∷◌, ◌++◌, length, map, reverse}
use Rattle.std.specs.Prelude.{drop, min, nat_lt}
use Rattle.std.specs.Prelude.{if◌then◌else◌, slice_range}
use Rattle.std.specs.List.{common_prefix_len, flat_map, slice_split}
use Rattle.std.specs.Str.{bytes_eq}

-- the lines of a text: its parts between line feeds
abbrev pub lines_of : (text : List ℕ) → List (List ℕ)
lines_of text = slice_split (λ b. b == 10) text

-- a byte of a line as it is shown: a question mark unless it is a printable ASCII character
abbrev pub shown_byte : ℕ → ℕ
shown_byte b = if nat_lt b 32 || nat_lt 126 b then 63 else b

-- a line that begins with a sign
abbrev pub signed_line : (sign : ℕ) → (line : List ℕ) → List ℕ
signed_line sign line = sign ∷ (map shown_byte line ++ (10 ∷ []))

-- for lines that are given in some form, whose bytes are these
module _ {X : Type 0} (line : X → List ℕ) where
  abbrev pub signed : (sign : ℕ) → List X → List ℕ
  signed sign xs = flat_map (λ x. signed_line sign (line x)) xs

  -- how many lines two texts have in common at their start
  abbrev pub common : (xs ys : List X) → ℕ
  common xs ys = common_prefix_len (λ x y. bytes_eq (line x) (line y)) xs ys

  -- the last equal lines before the first difference, the expected lines with `-`, the others with `+`, and the
  -- first equal lines after that; what follows the last line feed of both isn't a line
  abbrev pub hunk : (told wanted : List X) → List ℕ
  hunk told wanted =
      let before = common told wanted in
      let behind = common (reverse (drop before told)) (reverse (drop before wanted)) in
      let told_end = length told - behind in
      signed 32 (slice_range told (before - 3) before)
      ++ (signed 45 (slice_range wanted before (length wanted - behind))
      ++ (signed 43 (slice_range told before told_end)
      ++ signed 32 (slice_range told told_end (told_end + min (behind - 1) 3))))
