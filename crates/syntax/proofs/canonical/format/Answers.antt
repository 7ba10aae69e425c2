use Rattle.std.proofs.Common.{sym, subst}
use Rattle.std.specs.Str.{chars}
use Rattle.syntax.specs.Lexical.{AreTokensOf}
use Rattle.syntax.specs.Spelling.{spelling}
use Rattle.syntax_tree.specs.Tree.{program}
use Rattle.syntax.proofs.AsciiLemmas.{canonical_is_read}
use Rattle.syntax.proofs.LineText.{begins_text}
use Rattle.syntax.proofs.canonical.format.Goals as goal

pub returns-clause-text : goal.returns-clause-text
returns-clause-text c = begins_text c.new-lines.result _ _ c.new-lines.ensures.text c.new-lines.ensures.depth c.new-lines.ensures.label
    c.in_ok-program.ensures

pub returns-clause-tokens : goal.returns-clause-tokens
returns-clause-tokens c = λ source has.
    let p = program c.args.program.now in
    let written = begins_text c.new-lines.result (spelling p) _ c.new-lines.ensures.text c.new-lines.ensures.depth c.new-lines.ensures.label
    c.in_ok-program.ensures in
    subst (λ t. AreTokensOf (chars t) (spelling p)) (sym written) (canonical_is_read source p has)
