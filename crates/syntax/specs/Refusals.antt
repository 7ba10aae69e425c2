-- What an error states about a text.
use Rattle.std.specs.Prelude.{◌≡◌, ◌≢◌, ◌-◌, ◌<◌, ℕ, false, List, [], ◌∷◌, ◌++◌, Option, Some, None}
use Rattle.std.specs.Prelude.{codes, drop, length}
use Rattle.std.specs.Char.{is_ascii_digit}
use Rattle.std.specs.Str.{chars}
use Rattle.syntax.specs.declared.error.SyntaxError.{SyntaxError}
use Rattle.syntax.specs.declared.error.SyntaxError.TheVariants.{NotACharacter, UnexpectedToken}
use Rattle.syntax.specs.declared.error.SyntaxError.TheVariants.{NumberTooLarge, TooDeep, TooLong, OutOfMemory}
use Rattle.syntax.specs.declared.lexer.Unread.{Unread}
use Rattle.syntax.specs.declared.lexer.Unread.TheVariants.{NotACharacter as Unreadable}
use Rattle.syntax.specs.declared.lexer.Unread.TheVariants.{NumberTooLarge as OverLimit}
use Rattle.syntax.specs.declared.lexer.Unread.TheVariants.{OutOfMemory as NoMemory}
use Rattle.syntax.specs.declared.place.TextPlace.{TextPlace}
use Rattle.syntax.specs.declared.token.Spanned.{Spanned}
use Rattle.syntax.specs.Brackets.{AreShallow}
use Rattle.syntax.specs.Lexical.{starts, HasTokens, AreTokensOf, Reads, BeginsNoPiece}
use Rattle.syntax.specs.Lexical.{BeginsLargeNumber, StopsAt}
use Rattle.syntax.specs.Place.{place_at, place_text}
use Rattle.syntax.specs.Spelling.{spelling}
use Rattle.syntax.specs.Token.{Token, token, plain}
use Rattle.syntax_tree.specs.Tree.{Program}

-- S1: a text can be read up to this character, which starts no piece and is no digit
pub record IsNoCharacter (text : List ℕ) (at : ℕ) : Type 0 where
  pub stops : StopsAt text at
  pub no_digit : starts is_ascii_digit (drop at text) ≡ false

-- S3: a text can be read up to this character, where a number starts that is too large
pub record IsLargeNumber (text : List ℕ) (at : ℕ) : Type 0 where
  pub stops : StopsAt text at
  pub large : BeginsLargeNumber (drop at text)

-- this many characters are left, of which the first starts no piece and is no digit
pub record BeginsNoCharacter (left : ℕ) (text : List ℕ) : Type 0 where
  pub all_left : left ≡ length text
  pub no_piece : BeginsNoPiece text
  pub no_digit : starts is_ascii_digit text ≡ false

-- why no token comes first if these characters are left
abbrev pub BeginsNoToken : List ℕ → Unread → Type 0
BeginsNoToken text (Unreadable left) = BeginsNoCharacter left text
BeginsNoToken text (OverLimit left) = (left ≡ length text) × BeginsLargeNumber text
BeginsNoToken text NoMemory = Unit {0}

-- why a text has no tokens, by the number of characters that are left
abbrev pub TellsUnread : List ℕ → Unread → Type 0
TellsUnread text (Unreadable left) = IsNoCharacter text (length text - left)
TellsUnread text (OverLimit left) = IsLargeNumber text (length text - left)
TellsUnread text NoMemory = Unit {0}

-- a token is in a text after these tokens, and starts at the character with this number
pub record StandsAt (text : List ℕ) (before : List Token) (t : Token) (at : ℕ) : Type 0 where
  pub behind : List ℕ
  pub read : HasTokens text before (drop at text)
  pub stands : Reads (drop at text) (t ∷ []) behind

-- some token starts at this character, or the text ends before it
pub data BeginsToken (text : List ℕ) (at : ℕ) : Type 0 where
  at_token : (before : List Token) (t : Token) → StandsAt text before t at → BeginsToken text at
  at_end : at ≡ length text → BeginsToken text at

-- each token is in the text at its recorded position, after the tokens before it
abbrev pub ArePlaced : List ℕ → List Spanned → Type 0
ArePlaced text found =
    (before : List Spanned) (s : Spanned) (after : List Spanned) → found ≡ before ++ s ∷ after
    → StandsAt text (plain before) (token s.token) s.at

-- the token that starts at this character is the first by which more than 100 brackets are open
pub record OpensTooMany (found : List Spanned) (at : ℕ) : Type 0 where
  pub before : List Spanned
  pub last : Spanned
  pub after : List Spanned
  pub found_are : found ≡ before ++ last ∷ after
  pub shallow : AreShallow 0 (plain before)
  pub deep : AreShallow 0 (plain before ++ token last.token ∷ []) → ⊥
  pub there : at ≡ last.at

-- S4: a text has tokens, and the one at this character is the first by which more than 100 brackets
-- are open
pub record IsTooDeep (text : List ℕ) (at : ℕ) : Type 0 where
  pub tokens : List Token
  pub read : AreTokensOf text tokens
  pub before : List Token
  pub last : Token
  pub stands : StandsAt text before last at
  pub shallow : AreShallow 0 before
  pub deep : AreShallow 0 (before ++ last ∷ []) → ⊥
  pub all_deep : AreShallow 0 tokens → ⊥

-- S2: a text has tokens by which at most 100 brackets are open, and they spell no program
pub record SpellsNoProgram (text : List ℕ) (at : ℕ) : Type 0 where
  pub tokens : List Token
  pub read : AreTokensOf text tokens
  pub shallow : AreShallow 0 tokens
  pub no_program : (p : Program) → tokens ≢ spelling p
  pub begins : BeginsToken text at

-- a fact about a character of a text, whose position this is
pub record IsPlace (text : List ℕ) (Fact : ℕ → Type 0) (place : TextPlace) : Type 0 where
  pub at : ℕ
  pub fact : Fact at
  pub there : place ≡ place_at text at

-- what an error states about the characters of a text
abbrev pub TellsOf : List ℕ → SyntaxError → Type 0
TellsOf text (NotACharacter place) = IsPlace text (IsNoCharacter text) place
TellsOf text (UnexpectedToken place) = IsPlace text (SpellsNoProgram text) place
TellsOf text (NumberTooLarge place) = IsPlace text (IsLargeNumber text) place
TellsOf text (TooDeep place) = IsPlace text (IsTooDeep text) place
TellsOf text TooLong = ⊥
TellsOf text OutOfMemory = Unit {0}

-- what an error states about a text
abbrev pub Tells : List ℕ → SyntaxError → Type 0
Tells text (NotACharacter place) = TellsOf (chars text) (NotACharacter place)
Tells text (UnexpectedToken place) = TellsOf (chars text) (UnexpectedToken place)
Tells text (NumberTooLarge place) = TellsOf (chars text) (NumberTooLarge place)
Tells text (TooDeep place) = TellsOf (chars text) (TooDeep place)
Tells text TooLong = 1048576 < length text
Tells text OutOfMemory = Unit {0}

-- the code of an error
abbrev pub error_code : SyntaxError → List ℕ
error_code (NotACharacter place) = codes "S1"
error_code (UnexpectedToken place) = codes "S2"
error_code (NumberTooLarge place) = codes "S3"
error_code (TooDeep place) = codes "S4"
error_code TooLong = codes "S5"
error_code OutOfMemory = codes "S6"

-- the position that an error names
abbrev pub place_of : SyntaxError → Option TextPlace
place_of (NotACharacter place) = Some place
place_of (UnexpectedToken place) = Some place
place_of (NumberTooLarge place) = Some place
place_of (TooDeep place) = Some place
place_of _ = None

-- `at` and the position, if there is one
abbrev pub at_text : Option TextPlace → List ℕ
at_text None = []
at_text (Some place) = codes " at " ++ place_text place

-- the text of an error: its code, and `at` with its position if it names one
abbrev pub error_text : SyntaxError → List ℕ
error_text e = error_code e ++ at_text (place_of e)
