use Rattle.std.proofs.Common.{[], ◌∷◌, ◌++◌, ◌∙◌, ap, sym, arith}
use Rattle.syntax.specs.declared.token.Mark.TheVariants.{RightParen}
use Rattle.syntax.specs.Spelling.{exprs_then}
use Rattle.syntax.specs.Token.{MarkToken, plain}
use Rattle.syntax_tree.specs.Tree.{exprs}
use Rattle.syntax.proofs.ChainLemmas.{adds_to_one}
use Rattle.syntax.proofs.RefusalLemmas.{passed_on, same_rest}
use Rattle.syntax.proofs.StmtRefusals.{exprs_closed, exprs_opened}
use Rattle.syntax.proofs.statements.arguments.Goals as goal

pub returns-in-Some-clause-read : goal.returns-in-Some-clause-read
unfolding exprs_then
returns-in-Some-clause-read c = record {
  spelled = c.in-Some.ensures.found
      ∙ ap (λ l. exprs_then (exprs l) (MarkToken RightParen ∷ plain c.in-Some.rest.now)) (sym c.new-arguments.ensures.items);
  whole = λ all r spelled.
      exprs_closed all _ r (sym c.in-Some.ensures.found ∙ spelled);
}

pub returns-clause-read : goal.returns-clause-read
returns-clause-read c = record {
  spelled = let one = c.in_ok-push.ensures.items ∙ ap (λ l. l ++ c.in_ok-first.first ∷ []) c.new-arguments.ensures.items in
      adds_to_one _ _ c.in_ok-first.first _ _ _ c.in_ok-first.ensures.read.spelled one c.in_ok-arguments.ensures.spelled
      ∙ ap (exprs_then (exprs c.in_ok-arguments.arguments.items)) c.in_ok-rest.ensures.found;
  whole = λ all r spelled.
      let parts = exprs_opened all _ r c.in_default.ensures.absent spelled in
      let others = c.in_ok-first.ensures.read.whole parts.first parts.after parts.ends parts.spelled ∙ parts.more in
      let mark = c.in_ok-arguments.ensures.whole parts.others (MarkToken RightParen ∷ r) (omega arith) others in
      same_rest (sym c.in_ok-rest.ensures.found ∙ mark);
}

pub returns-in_err-first-clause-refused : goal.returns-in_err-first-clause-refused
returns-in_err-first-clause-refused c =
    passed_on _ _ c.from_residual.ensures.1 (λ room all r spelled.
    let parts = exprs_opened all _ r c.in_default.ensures.absent spelled in
    c.in_err-first.ensures.refused room parts.first parts.after parts.ends parts.spelled)

pub returns-in_err-arguments-clause-refused : goal.returns-in_err-arguments-clause-refused
returns-in_err-arguments-clause-refused c =
    passed_on _ _ c.from_residual-in_err-arguments.ensures.1 (λ room all r spelled.
    let parts = exprs_opened all _ r c.in_default.ensures.absent spelled in
    let others = c.in_ok-first.ensures.read.whole parts.first parts.after parts.ends parts.spelled ∙ parts.more in
    c.in_err-arguments.ensures.refused room parts.others (MarkToken RightParen ∷ r) (omega arith) others)

pub returns-in_err-rest-clause-refused : goal.returns-in_err-rest-clause-refused
returns-in_err-rest-clause-refused c =
    passed_on _ _ c.from_residual-in_err-rest.ensures.1 (λ room all r spelled.
    let parts = exprs_opened all _ r c.in_default.ensures.absent spelled in
    let others = c.in_ok-first.ensures.read.whole parts.first parts.after parts.ends parts.spelled ∙ parts.more in
    let mark = c.in_ok-arguments.ensures.whole parts.others (MarkToken RightParen ∷ r) (omega arith) others in
    c.in_err-rest.ensures.refused _ mark)
