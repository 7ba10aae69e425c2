-- The number of open brackets.
use Rattle.std.specs.Prelude.{◌+◌, ◌-◌, ◌≤◌, ℕ, List, [], ◌∷◌}
use Rattle.syntax.specs.declared.token.Mark.{Mark}
use Rattle.syntax.specs.declared.token.Mark.TheVariants.{LeftParen, RightParen, LeftBrace}
use Rattle.syntax.specs.declared.token.Mark.TheVariants.{RightBrace, LeftBracket, RightBracket}
use Rattle.syntax.specs.Token.{Token, NameToken, NumberToken, WordToken, MarkToken}

-- a mark that opens a bracket adds one, and a mark that closes a bracket removes one, but never
-- below 0
abbrev pub open_behind_mark : ℕ → Mark → ℕ
open_behind_mark count LeftParen = count + 1
open_behind_mark count LeftBrace = count + 1
open_behind_mark count LeftBracket = count + 1
open_behind_mark count RightParen = count - 1
open_behind_mark count RightBrace = count - 1
open_behind_mark count RightBracket = count - 1
open_behind_mark count _ = count

-- no other token changes the number of open brackets
abbrev pub open_behind : ℕ → Token → ℕ
open_behind count (MarkToken mark) = open_behind_mark count mark
open_behind count (NameToken name) = count
open_behind count (NumberToken number) = count
open_behind count (WordToken word) = count

-- if this many are open before the tokens, at most 100 are open at each of them
abbrev pub AreShallow : ℕ → List Token → Type 0
AreShallow count [] = Unit {0}
AreShallow count (t ∷ ts) = (open_behind count t ≤ 100) × AreShallow (open_behind count t) ts
