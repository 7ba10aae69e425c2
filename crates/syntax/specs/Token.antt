-- Tokens, without their representation in memory and without their positions.
use Rattle.std.specs.Prelude.{ℕ, List, map}
use Rattle.std.specs.String.{string_bytes}
use Rattle.syntax.specs.declared.token.Word.{Word}
use Rattle.syntax.specs.declared.token.Mark.{Mark}
use Rattle.syntax.specs.declared.token.Token.{Token as rToken}
use Rattle.syntax.specs.declared.token.Token.TheVariants.{Name as rName, Number as rNumber}
use Rattle.syntax.specs.declared.token.Token.TheVariants.{Word as rWord, Mark as rMark}
use Rattle.syntax.specs.declared.token.Spanned.{Spanned}

pub data Token : Type 0 where
  NameToken : List ℕ → Token
  NumberToken : ℕ → Token
  WordToken : Word → Token
  MarkToken : Mark → Token

abbrev pub token : rToken → Token
token (rName s) = NameToken (string_bytes s)
token (rNumber n) = NumberToken n
token (rWord w) = WordToken w
token (rMark m) = MarkToken m

-- tokens without their positions
abbrev pub plain : List Spanned → List Token
plain = map (λ s. token s.token)
