-- Positions of characters in a text, as lines and columns.
use Rattle.std.specs.Prelude.{ℕ, ◌+◌, ◌==◌, List, ◌++◌, codes, take, reverse, count_by}
use Rattle.std.specs.Fmt.{decimal}
use Rattle.std.specs.List.{prefix_len}
use Rattle.syntax.specs.declared.place.TextPlace.{TextPlace}
use Rattle.syntax.specs.Lexical.{is_in_line}

-- the line after these characters: one more than the number of line feeds among them
abbrev pub line_behind : List ℕ → ℕ
line_behind before = count_by (λ c. c == 10) before + 1

-- the column after these characters: one more than the number of characters after the last line
-- feed
abbrev pub column_behind : List ℕ → ℕ
column_behind before = prefix_len is_in_line (reverse before) + 1

-- the position of the character with this number from 0, or the position right after the text
abbrev pub place_at : List ℕ → ℕ → TextPlace
place_at text at = record {
  line = line_behind (take at text);
  column = column_behind (take at text);
}

-- the text of a position: its line, then its column
abbrev pub place_text : TextPlace → List ℕ
place_text place = decimal place.line ++ (codes ":" ++ decimal place.column)
