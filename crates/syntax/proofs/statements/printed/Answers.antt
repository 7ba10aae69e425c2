use Rattle.std.proofs.Common.{◌∷◌, sym, ◌∙◌, ap, arith}
use Rattle.syntax.specs.Spelling.{expr_then, more_then, stmt_then}
use Rattle.syntax_tree.specs.Tree.{expr, exprs, stmt}
use Rattle.syntax.proofs.ChainLemmas.{behind, adds_to_none}
use Rattle.syntax.specs.declared.token.Mark.TheVariants.{Semicolon}
use Rattle.syntax.specs.Token.{MarkToken}
use Rattle.syntax.proofs.RefusalLemmas.{passed_on, same_rest}
use Rattle.syntax.proofs.StmtRefusals.{print_opened}
use Rattle.syntax.proofs.statements.printed.Goals as goal

pub returns-clause-read : goal.returns-clause-read
unfolding stmt_then stmt
returns-clause-read c = record {
  spelled = let others = adds_to_none _ _ _ _ c.new.ensures.items c.in_ok-others.ensures.spelled in
      behind (c.in_ok-first.ensures.read.spelled
      ∙ ap (expr_then (expr c.in_ok-first.first))
      (others ∙ ap (more_then (exprs c.in_ok-others.others.items)) c.in_ok-rest.ensures.found));
  whole = λ s r ends spelled.
      let parts = print_opened s _ r spelled in
      let others = c.in_ok-first.ensures.read.whole parts.first parts.after parts.ends parts.spelled ∙ parts.more in
      let mark = c.in_ok-others.ensures.whole parts.others (MarkToken Semicolon ∷ r) (omega arith) others in
      same_rest (sym c.in_ok-rest.ensures.found ∙ mark);
}

pub returns-in_err-first-clause-refused : goal.returns-in_err-first-clause-refused
returns-in_err-first-clause-refused c =
    passed_on _ _ c.from_residual.ensures.1 (λ room s r ends spelled.
    let parts = print_opened s _ r spelled in
    c.in_err-first.ensures.refused room parts.first parts.after parts.ends parts.spelled)

pub returns-in_err-others-clause-refused : goal.returns-in_err-others-clause-refused
returns-in_err-others-clause-refused c =
    passed_on _ _ c.from_residual-in_err-others.ensures.1 (λ room s r ends spelled.
    let parts = print_opened s _ r spelled in
    let others = c.in_ok-first.ensures.read.whole parts.first parts.after parts.ends parts.spelled ∙ parts.more in
    c.in_err-others.ensures.refused room parts.others (MarkToken Semicolon ∷ r) (omega arith) others)

pub returns-in_err-rest-clause-refused : goal.returns-in_err-rest-clause-refused
returns-in_err-rest-clause-refused c =
    passed_on _ _ c.from_residual-in_err-rest.ensures.1 (λ room s r ends spelled.
    let parts = print_opened s _ r spelled in
    let others = c.in_ok-first.ensures.read.whole parts.first parts.after parts.ends parts.spelled ∙ parts.more in
    let mark = c.in_ok-others.ensures.whole parts.others (MarkToken Semicolon ∷ r) (omega arith) others in
    c.in_err-rest.ensures.refused _ mark)
