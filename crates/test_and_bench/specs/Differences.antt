-- Where two texts differ.
use Rattle.std.specs.Prelude.{ℕ, ◌+◌, List, [], ◌∷◌, ◌++◌, codes, nat_eq, if◌then◌else◌, Option, None, Some}
use Rattle.std.specs.Fmt.{decimal}
use Rattle.std.specs.Str.{bytes_eq}
use Rattle.test_and_bench.specs.Hunks.{hunk, lines_of}

-- the line behind a byte of a line
abbrev pub line_behind : (byte line : ℕ) → ℕ
line_behind byte line = if nat_eq byte 10 then line + 1 else line

-- the number of the first line in which two texts differ, for texts that start in this line; if one begins
-- with the other, it is the line in which the shorter one ends
abbrev pub differing_line : (line : ℕ) → (told wanted : List ℕ) → ℕ
differing_line line [] wanted = line
differing_line line (x ∷ told) [] = line
differing_line line (x ∷ told) (y ∷ wanted) =
    if nat_eq x y then differing_line (line_behind x line) told wanted else line

-- that line, and the lines that differ, after what the texts are
abbrev pub description : (told wanted : List ℕ) → List ℕ
description told wanted =
    (codes "differs at line " ++ (decimal (differing_line 1 told wanted) ++ codes "\n"))
    ++ hunk (λ line. line) (lines_of told) (lines_of wanted)

-- it, if the texts differ
abbrev pub difference : (told wanted : List ℕ) → Option (List ℕ)
difference told wanted = if bytes_eq told wanted then None else Some (description told wanted)
