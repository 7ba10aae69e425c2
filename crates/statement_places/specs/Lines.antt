-- A listing with the places of its statements: line and column before each line with a label.
use Rattle.std.specs.Prelude.{ℕ, ◌-◌, Bool, true, false, List, [], ◌∷◌, ◌++◌, codes, drop, length, replicate}
use Rattle.std.specs.Char.{is_ascii_digit}
use Rattle.std.specs.Fmt.{decimal}
use Rattle.syntax.specs.declared.place.TextPlace.{TextPlace}
use Rattle.syntax.specs.Lexical.{starts}

-- a label is right-aligned in five columns
abbrev pub has_label : List ℕ → Bool
has_label line = starts is_ascii_digit (drop 4 line)

-- the line right-aligned in five columns, a colon, and the column left-aligned in four
abbrev pub place_margin : TextPlace → List ℕ
place_margin p =
    (replicate (5 - length (decimal p.line)) 32 ++ decimal p.line)
    ++ (codes ":" ++ (decimal p.column ++ replicate (4 - length (decimal p.column)) 32))

-- the margin of a line with or without a label: the first remaining place, or spaces
abbrev pub margin : Bool → List TextPlace → List ℕ
margin false places = codes "          "
margin true [] = codes "          "
margin true (p ∷ ps) = place_margin p

-- the places that remain after a line with or without a label
abbrev pub left_behind : Bool → List TextPlace → List TextPlace
left_behind false places = places
left_behind true [] = []
left_behind true (p ∷ ps) = ps

-- a line after its margin
abbrev pub placed_line : List TextPlace → List ℕ → List ℕ
placed_line places line = margin (has_label line) places ++ (line ++ codes "\n")

-- lines, with the places of the lines that have a label
abbrev pub placed_lines : List TextPlace → List (List ℕ) → List ℕ
placed_lines places [] = []
placed_lines places (line ∷ more) =
    placed_line places line ++ placed_lines (left_behind (has_label line) places) more
