-- The tokens of a text. A text is cut into pieces, each as long as possible, and a piece is a
-- token, a white space character or a comment.
use Rattle.std.specs.Prelude.{◌≡◌, ◌≢◌, ◌+◌, ◌*◌, ◌<◌, ◌≤◌, ℕ, Bool, true, false, not, ◌==◌, ◌||◌, ◌&&◌, List}
use Rattle.std.specs.Prelude.{[], ◌∷◌, ◌++◌, codes, drop, fold, length}
use Rattle.std.specs.Char.{is_ascii_alphabetic, is_ascii_digit, digit_value}
use Rattle.std.specs.List.{flat_map, list_all}
use Rattle.syntax.specs.declared.token.Word.{Word}
use Rattle.syntax.specs.declared.token.Word.TheVariants.{And, Array, As, Async, At, By, Byte, Else, False}
use Rattle.syntax.specs.declared.token.Word.TheVariants.{Fault, Finish, If, Int, Len, Main, Mut, Not, Or}
use Rattle.syntax.specs.declared.token.Word.TheVariants.{Parts, Print, Proc, Read, Rescue, Skip, Split, True}
use Rattle.syntax.specs.declared.token.Word.TheVariants.{Var, While}
use Rattle.syntax.specs.declared.token.Mark.{Mark}
use Rattle.syntax.specs.declared.token.Mark.TheVariants.{LeftParen, RightParen, LeftBrace, RightBrace}
use Rattle.syntax.specs.declared.token.Mark.TheVariants.{LeftBracket, RightBracket, Comma, Semicolon, Colon}
use Rattle.syntax.specs.declared.token.Mark.TheVariants.{Becomes, Plus, Minus, Star, Slash, Percent, Less}
use Rattle.syntax.specs.declared.token.Mark.TheVariants.{AtMost, Greater, AtLeast, Equal, Differs}
use Rattle.syntax.specs.Token.{Token, NameToken, NumberToken, WordToken, MarkToken}

-- the letters of a reserved word
abbrev pub word_text : Word → List ℕ
word_text And = codes "and"
word_text Array = codes "array"
word_text As = codes "as"
word_text Async = codes "async"
word_text At = codes "at"
word_text By = codes "by"
word_text Byte = codes "byte"
word_text Else = codes "else"
word_text False = codes "false"
word_text Fault = codes "fault"
word_text Finish = codes "finish"
word_text If = codes "if"
word_text Int = codes "int"
word_text Len = codes "len"
word_text Main = codes "main"
word_text Mut = codes "mut"
word_text Not = codes "not"
word_text Or = codes "or"
word_text Parts = codes "parts"
word_text Print = codes "print"
word_text Proc = codes "proc"
word_text Read = codes "read"
word_text Rescue = codes "rescue"
word_text Skip = codes "skip"
word_text Split = codes "split"
word_text True = codes "true"
word_text Var = codes "var"
word_text While = codes "while"

-- the characters of a mark
abbrev pub mark_text : Mark → List ℕ
mark_text LeftParen = codes "("
mark_text RightParen = codes ")"
mark_text LeftBrace = codes "{"
mark_text RightBrace = codes "}"
mark_text LeftBracket = codes "["
mark_text RightBracket = codes "]"
mark_text Comma = codes ","
mark_text Semicolon = codes ";"
mark_text Colon = codes ":"
mark_text Becomes = codes "="
mark_text Plus = codes "+"
mark_text Minus = codes "-"
mark_text Star = codes "*"
mark_text Slash = codes "/"
mark_text Percent = codes "%"
mark_text Less = codes "<"
mark_text AtMost = codes "<="
mark_text Greater = codes ">"
mark_text AtLeast = codes ">="
mark_text Equal = codes "=="
mark_text Differs = codes "!="

-- space, tab, carriage return and line feed
abbrev pub is_blank : ℕ → Bool
is_blank c = c == 32 || (c == 9 || (c == 13 || c == 10))

-- a name starts with a letter or `_`, and digits can follow
abbrev pub begins_name : ℕ → Bool
begins_name c = is_ascii_alphabetic c || c == 95

abbrev pub is_in_name : ℕ → Bool
is_in_name c = begins_name c || is_ascii_digit c

-- a comment extends to the end of its line
abbrev pub is_in_line : ℕ → Bool
is_in_line c = not (c == 10)

-- whether there is a first character, and it passes
abbrev pub starts : (ℕ → Bool) → List ℕ → Bool
starts p [] = false
starts p (c ∷ cs) = p c

-- `//` starts a comment
abbrev pub begins_comment : List ℕ → Bool
begins_comment [] = false
begins_comment (c ∷ []) = false
begins_comment (c ∷ d ∷ cs) = c == 47 && d == 47

-- the number that digits spell
abbrev pub number_of : List ℕ → ℕ
number_of digits = fold (λ n c. n * 10 + digit_value c) 0 digits

-- the pieces of a text
pub data Piece : Type 0 where
  BlankPiece : ℕ → Piece
  CommentPiece : List ℕ → Piece
  NamePiece : List ℕ → Piece
  NumberPiece : List ℕ → Piece
  WordPiece : Word → Piece
  MarkPiece : Mark → Piece

-- the characters of a piece
abbrev pub letters : Piece → List ℕ
letters (BlankPiece c) = c ∷ []
letters (CommentPiece cs) = 47 ∷ 47 ∷ cs
letters (NamePiece cs) = cs
letters (NumberPiece cs) = cs
letters (WordPiece w) = word_text w
letters (MarkPiece m) = mark_text m

-- its token, unless it is white space or a comment
abbrev pub token_of : Piece → List Token
token_of (BlankPiece c) = []
token_of (CommentPiece cs) = []
token_of (NamePiece cs) = NameToken cs ∷ []
token_of (NumberPiece cs) = NumberToken (number_of cs) ∷ []
token_of (WordPiece w) = WordToken w ∷ []
token_of (MarkPiece m) = MarkToken m ∷ []

-- a name is no reserved word, and is as long as possible
pub record IsName (cs rest : List ℕ) : Type 0 where
  pub begins : starts begins_name cs ≡ true
  pub in_name : list_all is_in_name cs ≡ true
  pub ends : starts is_in_name rest ≡ false
  pub no_word : (word : Word) → word_text word ≢ cs

-- a number is not too large, and is as long as possible
pub record IsNumber (cs rest : List ℕ) : Type 0 where
  pub begins : starts is_ascii_digit cs ≡ true
  pub digits : list_all is_ascii_digit cs ≡ true
  pub ends : starts is_ascii_digit rest ≡ false
  pub fits : number_of cs ≤ 9223372036854775807

-- if `=` follows a mark, the two together are no mark; and a comment is no mark
pub record IsMark (m : Mark) (rest : List ℕ) : Type 0 where
  pub longest : starts (λ c. c == 61) rest ≡ true → (longer : Mark)
      → mark_text longer ≢ mark_text m ++ 61 ∷ []
  pub no_comment : begins_comment (mark_text m ++ rest) ≡ false

-- a piece can come before the rest of a text, and can't be longer there
abbrev pub MayStand : Piece → List ℕ → Type 0
MayStand (BlankPiece c) rest = is_blank c ≡ true
MayStand (CommentPiece cs) rest = (list_all is_in_line cs ≡ true) × (starts is_in_line rest ≡ false)
MayStand (NamePiece cs) rest = IsName cs rest
MayStand (NumberPiece cs) rest = IsNumber cs rest
MayStand (WordPiece w) rest = starts is_in_name rest ≡ false
MayStand (MarkPiece m) rest = IsMark m rest

-- a text starts with a piece, which the rest follows
pub record Begins (text : List ℕ) (p : Piece) (rest : List ℕ) : Type 0 where
  pub spelled : text ≡ letters p ++ rest
  pub fits : MayStand p rest

-- a text starts with consecutive pieces, which the rest follows
abbrev pub AreCut : List ℕ → List Piece → List ℕ → Type 0
AreCut text [] rest = text ≡ rest
AreCut text (p ∷ ps) rest = (behind : List ℕ) × Begins text p behind × AreCut behind ps rest

-- a text starts with a piece that has these tokens
pub record Reads (text : List ℕ) (ts : List Token) (rest : List ℕ) : Type 0 where
  pub piece : Piece
  pub begins : Begins text piece rest
  pub tokens : token_of piece ≡ ts

-- the text up to the rest has these tokens
pub record HasTokens (text : List ℕ) (ts : List Token) (rest : List ℕ) : Type 0 where
  pub pieces : List Piece
  pub cut : AreCut text pieces rest
  pub tokens : flat_map token_of pieces ≡ ts

-- a text has these tokens
abbrev pub AreTokensOf : List ℕ → List Token → Type 0
AreTokensOf text ts = HasTokens text ts []

-- letters are the word or the name of a token, if no more letters follow
pub record SpellsWord (cs : List ℕ) (t : Token) : Type 0 where
  pub piece : Piece
  pub spelled : cs ≡ letters piece
  pub tokens : token_of piece ≡ t ∷ []
  pub stands : (rest : List ℕ) → starts is_in_name rest ≡ false → MayStand piece rest

-- no piece comes first
abbrev pub BeginsNoPiece : List ℕ → Type 0
BeginsNoPiece text = (p : Piece) (rest : List ℕ) → Begins text p rest → ⊥

-- no mark comes first
abbrev pub BeginsNoMark : List ℕ → Type 0
BeginsNoMark text = (m : Mark) (rest : List ℕ) → Begins text (MarkPiece m) rest → ⊥

-- digits come first whose number is too large
pub record BeginsLargeNumber (text : List ℕ) : Type 0 where
  pub digits : List ℕ
  pub behind : List ℕ
  pub spelled : text ≡ digits ++ behind
  pub begins : starts is_ascii_digit digits ≡ true
  pub all_digits : list_all is_ascii_digit digits ≡ true
  pub ends : starts is_ascii_digit behind ≡ false
  pub over : 9223372036854775807 < number_of digits

-- this many characters of a text are cut into pieces, and the characters after them start with no
-- piece
pub record StopsAt (text : List ℕ) (at : ℕ) : Type 0 where
  pub tokens : List Token
  pub read : HasTokens text tokens (drop at text)
  pub within : at < length text
  pub stuck : BeginsNoPiece (drop at text)
