-- The statements of a text's program, as answers name them: `12:11 label 8  async { .. }`.
use Rattle.std.specs.Prelude.{ℕ, ◌≡◌, ◌+◌, ◌-◌, ◌++◌, Bool, List, [], ◌∷◌, Option, None, Some, codes}
use Rattle.std.specs.Prelude.{if◌then◌else◌, length, map, nat_eq, option_map, slice_get}
use Rattle.std.specs.Prelude.{slice_index, unwrap_or}
use Rattle.std.specs.Fmt.{decimal}
use Rattle.std.specs.Str.{chars, trim_start}
use Rattle.std.specs.Str.Lines.{lines}
use Rattle.std.specs.String.{string_bytes}
use Rattle.syntax.specs.Canonical.{canonical, listed}
use Rattle.syntax.specs.Lexical.{AreTokensOf}
use Rattle.syntax.specs.Spelling.{spelling}
use Rattle.syntax.specs.declared.place.TextPlace.{TextPlace}
use Rattle.syntax_tree.specs.Tree.{Program}
use Rattle.statement_places.specs.Begun.{AreBegun}
use Rattle.statement_places.specs.Lines.{has_label}
use Rattle.statement_places.specs.Starts.{starts}
use Rattle.commands.specs.declared.statements.NamedStatements.{NamedStatements}

-- a line of a program ends with an open brace
abbrev pub opens_block : List ℕ → Bool
opens_block line = nat_eq (slice_index line (length line - 1)) 123

-- a text whose block is closed
abbrev pub closed : List ℕ → List ℕ
closed head = if opens_block head then head ++ codes " .. }" else head

-- the text of the statement on a line of a program: without its indentation, and with its block closed
abbrev pub head_on : (line : List ℕ) → List ℕ
head_on line = closed (trim_start line)

-- that text, if the line in the listing has a label
abbrev pub head_if : (labelled : Bool) → (line : List ℕ) → List (List ℕ)
head_if labelled line = if labelled then head_on line ∷ [] else []

-- the texts of the statements on the lines of a program from the n-th on, given the lines of its listing from
-- there on
abbrev pub heads_on : (plain : List (List ℕ)) → (n : ℕ) → (listing : List (List ℕ)) → List (List ℕ)
heads_on plain n [] = []
heads_on plain n (l ∷ listing) =
    head_if (has_label l) (unwrap_or (slice_get plain n) []) ++ heads_on plain (n + 1) listing

-- these are the statements of the text's program, in the order of labels: where each begins, and its text
pub record AreStatements (text : List ℕ) (p : Program) (s : NamedStatements) : Type 0 where
  pub begun : AreBegun (chars text) (starts p) s.places.items
  pub heads_are : map string_bytes s.heads.items ≡ heads_on (lines (canonical p)) 0 (lines (listed p))

-- those of a program that the text spells
pub record HasStatements (text : List ℕ) (s : NamedStatements) : Type 0 where
  pub program : Program
  pub spelled : AreTokensOf (chars text) (spelling program)
  pub are : AreStatements text program s

-- where a statement begins, and a space
abbrev pub place_text : Option TextPlace → List ℕ
place_text None = []
place_text (Some p) = decimal p.line ++ (codes ":" ++ (decimal p.column ++ codes " "))

-- two spaces, and its text
abbrev pub head_text : Option (List ℕ) → List ℕ
head_text None = []
head_text (Some head) = codes "  " ++ head

-- the n-th statement, from 0, with something between its position and its text
abbrev pub around : NamedStatements → (n : ℕ) → (between : List ℕ) → List ℕ
around s n between =
    place_text (slice_get s.places.items n)
    ++ (between ++ head_text (option_map string_bytes (slice_get s.heads.items n)))

-- `12:11 label 8  async { .. }`: the statement with a label
abbrev pub named : NamedStatements → (label : ℕ) → List ℕ
named s label = around s (label - 1) (codes "label " ++ decimal label)

-- `4:5 label 2  async { .. } || 6:5 label 4  a[0] = 8;`: the line of a pair that may run together
abbrev pub named_pair : NamedStatements → ℕ × ℕ → List ℕ
named_pair s pair = named s pair.0 ++ (codes " || " ++ (named s pair.1 ++ codes "\n"))

-- lines, each between the position and the text of a statement, from the n-th statement on
abbrev pub lines_around : NamedStatements → (n : ℕ) → List (List ℕ) → List ℕ
lines_around s n [] = []
lines_around s n (line ∷ more) = (around s n line ++ codes "\n") ++ lines_around s (n + 1) more
