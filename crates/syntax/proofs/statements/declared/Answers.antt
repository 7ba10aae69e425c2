use Rattle.std.proofs.Common.{sym, ◌∙◌}
use Rattle.syntax.specs.Spelling.{stmt_then}
use Rattle.syntax_tree.specs.Tree.{stmt}
use Rattle.syntax.proofs.ChainLemmas.{behind}
use Rattle.syntax.proofs.RefusalLemmas.{passed_on, same_rest}
use Rattle.syntax.proofs.StmtRefusals.{var_opened}
use Rattle.syntax.proofs.statements.declared.Goals as goal

pub returns-clause-read : goal.returns-clause-read
unfolding stmt_then stmt
returns-clause-read c = record {
  spelled = behind (c.in_ok-name.ensures.found ∙ behind (c.in_ok-rest.ensures.found ∙ behind c.in_ok-value.ensures.read.spelled));
  whole = λ s r ends spelled.
      let parts = var_opened s _ r spelled in
      let mark = same_rest (sym c.in_ok-name.ensures.found ∙ parts.2) in
      let value = same_rest (sym c.in_ok-rest.ensures.found ∙ mark) in
      c.in_ok-value.ensures.read.whole parts.1 r value;
}

pub returns-in_err-name-clause-refused : goal.returns-in_err-name-clause-refused
returns-in_err-name-clause-refused c =
    passed_on _ _ c.from_residual.ensures.1 (λ room s r ends spelled.
    let parts = var_opened s _ r spelled in
    c.in_err-name.ensures.refused room _ _ parts.2)

pub returns-in_err-rest-clause-refused : goal.returns-in_err-rest-clause-refused
returns-in_err-rest-clause-refused c =
    passed_on _ _ c.from_residual-in_err-rest.ensures.1 (λ room s r ends spelled.
    let parts = var_opened s _ r spelled in
    let mark = same_rest (sym c.in_ok-name.ensures.found ∙ parts.2) in
    c.in_err-rest.ensures.refused _ mark)

pub returns-in_err-value-clause-refused : goal.returns-in_err-value-clause-refused
returns-in_err-value-clause-refused c =
    passed_on _ _ c.from_residual-in_err-value.ensures.1 (λ room s r ends spelled.
    let parts = var_opened s _ r spelled in
    let mark = same_rest (sym c.in_ok-name.ensures.found ∙ parts.2) in
    let value = same_rest (sym c.in_ok-rest.ensures.found ∙ mark) in
    c.in_err-value.ensures.refused room parts.1 r value)
