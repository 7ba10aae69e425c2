-- The canonical text of a program, which is its tokens formatted in lines; and its listing, with
-- labels before the lines.
use Rattle.std.specs.Prelude.{ℕ, ◌+◌, ◌-◌, ◌*◌, Bool, true, false, not, ◌||◌, ◌&&◌, if◌then◌else◌, List, []}
use Rattle.std.specs.Prelude.{◌++◌, ◌∷◌, length, replicate, codes, Option, None, Some}
use Rattle.std.specs.Fmt.{decimal}
use Rattle.std.specs.Option.{option_map}
use Rattle.syntax.specs.declared.token.Left.{Left}
use Rattle.syntax.specs.declared.token.Left.TheVariants.{Margin, Opening, Called, Operand, Ended, Other}
use Rattle.syntax.specs.declared.token.Word.TheVariants.{Array as WordArray, Byte as WordByte}
use Rattle.syntax.specs.declared.token.Word.TheVariants.{Else as WordElse, False as WordFalse, Int as WordInt}
use Rattle.syntax.specs.declared.token.Word.TheVariants.{Len as WordLen, Main as WordMain, Proc as WordProc}
use Rattle.syntax.specs.declared.token.Word.TheVariants.{Rescue as WordRescue, True as WordTrue}
use Rattle.syntax.specs.declared.token.Mark.{Mark}
use Rattle.syntax.specs.declared.token.Mark.TheVariants.{LeftParen, RightParen, LeftBrace, RightBrace}
use Rattle.syntax.specs.declared.token.Mark.TheVariants.{LeftBracket, RightBracket, Comma, Semicolon, Colon}
use Rattle.syntax.specs.declared.token.Mark.TheVariants.{Minus}
use Rattle.syntax.specs.Lexical.{word_text, mark_text}
use Rattle.syntax.specs.Spelling.{spelling}
use Rattle.syntax.specs.Token.{Token, NameToken, NumberToken, WordToken, MarkToken}
use Rattle.syntax_tree.specs.Tree.{Program}

-- the state of the formatting: the number of open blocks, the label of the last statement if labels
-- are written, and what is to the left
pub record Place : Type 0 where
  pub depth : ℕ
  pub label : Option ℕ
  pub left : Left

-- a `-` after an operand is no unary sign
abbrev pub left_by_minus : Left → Left
left_by_minus Called = Other
left_by_minus Operand = Other
left_by_minus _ = Opening

abbrev pub left_by_mark : Left → Mark → Left
left_by_mark left LeftParen = Opening
left_by_mark left LeftBracket = Opening
left_by_mark left RightParen = Operand
left_by_mark left RightBracket = Operand
left_by_mark left Semicolon = Ended
left_by_mark left LeftBrace = Ended
left_by_mark left RightBrace = Ended
left_by_mark left Minus = left_by_minus left
left_by_mark left _ = Other

-- what a token is to the token after it
abbrev pub left_by : Left → Token → Left
left_by left (NameToken x) = Called
left_by left (NumberToken n) = Operand
left_by left (WordToken WordLen) = Called
left_by left (WordToken WordInt) = Called
left_by left (WordToken WordByte) = Called
left_by left (WordToken WordTrue) = Operand
left_by left (WordToken WordFalse) = Operand
left_by left (WordToken _) = Other
left_by left (MarkToken m) = left_by_mark left m

-- no space comes before these
abbrev pub is_closing : Token → Bool
is_closing (MarkToken Comma) = true
is_closing (MarkToken Semicolon) = true
is_closing (MarkToken Colon) = true
is_closing (MarkToken RightParen) = true
is_closing (MarkToken RightBracket) = true
is_closing _ = false

-- no space comes between a name and these
abbrev pub is_opening : Token → Bool
is_opening (MarkToken LeftParen) = true
is_opening (MarkToken LeftBracket) = true
is_opening _ = false

-- the space before a token in its line
abbrev pub space : Left → Token → List ℕ
space Opening t = []
space Called t = if is_closing t || is_opening t then [] else codes " "
space _ t = if is_closing t then [] else codes " "

-- only `else` and `rescue` continue a line that was ended
abbrev pub continues_line : Token → Bool
continues_line (WordToken WordElse) = true
continues_line (WordToken WordRescue) = true
continues_line _ = false

abbrev pub begins_line : Left → Token → Bool
begins_line Margin t = true
begins_line Ended t = not (continues_line t)
begins_line _ t = false

-- a token that starts a line starts a statement, except for these
abbrev pub begins_statement : Token → Bool
begins_statement (WordToken WordProc) = false
begins_statement (WordToken WordMain) = false
begins_statement (WordToken WordArray) = false
begins_statement (MarkToken RightBrace) = false
begins_statement _ = true

-- a label, right-aligned in five columns, and a space
abbrev pub label_text : ℕ → List ℕ
label_text n = replicate (5 - length (decimal n)) 32 ++ (decimal n ++ codes " ")

-- what a listing puts before the line of a statement: the label after the last one
abbrev pub statement_margin : Option ℕ → List ℕ
statement_margin None = []
statement_margin (Some n) = label_text (n + 1)

-- what a listing puts before another line
abbrev pub plain_margin : Option ℕ → List ℕ
plain_margin None = []
plain_margin (Some n) = codes "      "

-- two spaces for each open block
abbrev pub indent : ℕ → List ℕ
indent depth = replicate (2 * depth) 32

-- a closing brace is indented like the header of its block
abbrev pub indentation : ℕ → Token → List ℕ
indentation depth (MarkToken RightBrace) = indent (depth - 1)
indentation depth _ = indent depth

-- what comes before the line that a token starts
abbrev pub line_start : Place → Token → List ℕ
line_start at t =
    (if begins_statement t then statement_margin at.label else plain_margin at.label)
    ++ indentation at.depth t

-- the line feed after a line
abbrev pub line_end : Left → List ℕ
line_end Ended = codes "\n"
line_end _ = []

-- what comes between a token and the token to its left
abbrev pub before : Place → Token → List ℕ
before at t = if begins_line at.left t
    then line_end at.left ++ line_start at t
    else space at.left t

abbrev pub depth_by : ℕ → Token → ℕ
depth_by depth (MarkToken LeftBrace) = depth + 1
depth_by depth (MarkToken RightBrace) = depth - 1
depth_by depth _ = depth

-- the state of the formatting after a token
abbrev pub next : Place → Token → Place
next at t = record {
  depth = depth_by at.depth t;
  label = (if begins_line at.left t && begins_statement t
      then option_map (λ n. n + 1) at.label
      else at.label);
  left = left_by at.left t;
}

-- names and words by their letters, numbers in decimal
abbrev pub token_text : Token → List ℕ
token_text (NameToken x) = x
token_text (NumberToken n) = decimal n
token_text (WordToken w) = word_text w
token_text (MarkToken m) = mark_text m

-- tokens formatted, starting in a state
unfoldable pub laid : Place → List Token → List ℕ
laid at [] = line_end at.left
laid at (t ∷ ts) = before at t ++ (token_text t ++ laid (next at t) ts)

-- tokens formatted within a line
abbrev pub in_line : List Token → List ℕ
in_line = laid (record { depth = 0; label = None; left = Opening })

-- the formatted tokens of a program, without labels
abbrev pub canonical : Program → List ℕ
canonical p = laid (record { depth = 0; label = None; left = Margin }) (spelling p)

-- the formatted tokens of a program, where each line has the label of the statement that starts
-- there
abbrev pub listed : Program → List ℕ
listed p = laid (record { depth = 0; label = Some 0; left = Margin }) (spelling p)
