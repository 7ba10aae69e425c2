-- The programs that texts spell.
use Rattle.std.specs.Prelude.{ℕ, List}
use Rattle.syntax.specs.Brackets.{AreShallow}
use Rattle.syntax.specs.Lexical.{AreTokensOf}
use Rattle.syntax.specs.Spelling.{spelling}
use Rattle.syntax_tree.specs.Tree.{Program}

-- some text has the tokens of this program, by which at most 100 brackets are open
pub record IsSpelled (p : Program) : Type 0 where
  pub text : List ℕ
  pub read : AreTokensOf text (spelling p)
  pub shallow : AreShallow 0 (spelling p)
