use Rattle.std.proofs.Common.{IfOk, IfErr, subst, ◌∙◌}
use Rattle.std.specs.Str.{chars}
use Rattle.syntax.specs.Lexical.{AreTokensOf}
use Rattle.syntax.specs.Refusals.{TellsOf}
use Rattle.syntax.specs.Spelling.{spelling}
use Rattle.syntax_tree.specs.Tree.{program}
use Rattle.syntax.proofs.Refused.{it_is_read}
use Rattle.syntax.proofs.parser.parse.Goals as goal

pub returns-clause-complete : goal.returns-clause-complete
returns-clause-complete c p has shallow small =
    let result = c.program.result in
    let characters = c.deref.ensures.value ∙ c.in_ok-characters.ensures.value in
    let read = subst (λ t. IfOk result (λ q. AreTokensOf t (spelling (program q)))) characters c.program.ensures.spelled in
    let told = subst (λ t. IfErr result (TellsOf t)) characters c.program.ensures.error in
    it_is_read (chars c.args.text.now) p has shallow result read told
