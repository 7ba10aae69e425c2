use Rattle.std.proofs.Common.{◌≤◌, sym, ◌∙◌, subst, length}
use Rattle.std.specs.Str.{chars}
use Rattle.syntax.specs.Lexical.{AreTokensOf}
use Rattle.syntax.specs.Spelling.{spelling}
use Rattle.syntax_tree.specs.Tree.{program}
use Rattle.syntax.proofs.laws.read_again.Goals as goal

pub returns : goal.returns
returns c = λ spelled short.
    let p = program c.args.program.now in
    let same = c.as_str.ensures.value in
    c.parse.ensures.complete p
    (subst (λ t. AreTokensOf (chars t) (spelling p)) (sym same) (c.in_ok-text.ensures.tokens spelled.text spelled.read))
    spelled.shallow
    (subst (λ t. length t ≤ 1048576) (sym (same ∙ c.in_ok-text.ensures.text)) short)
