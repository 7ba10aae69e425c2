use Rattle.std.proofs.Common.{rules, ◌∷◌, sym, ◌∙◌, arith}
use Rattle.syntax.specs.declared.token.Mark.TheVariants.{Semicolon}
use Rattle.syntax.specs.Token.{MarkToken}
use Rattle.syntax.proofs.RefusalLemmas.{passed_on, same_rest}
use Rattle.syntax.proofs.statements.ended.Goals as goal

pub returns-in_err-value-clause-refused : goal.returns-in_err-value-clause-refused
returns-in_err-value-clause-refused c =
    passed_on _ _ c.from_residual.ensures.1 (λ room e r spelled.
    c.in_err-value.ensures.refused room e (MarkToken Semicolon ∷ r) (omega arith) spelled)

pub returns-in_err-rest-clause-refused : goal.returns-in_err-rest-clause-refused
returns-in_err-rest-clause-refused c =
    passed_on _ _ c.from_residual-in_err-rest.ensures.1 (λ room e r spelled.
    c.in_err-rest.ensures.refused _ (c.in_ok-value.ensures.read.whole e (MarkToken Semicolon ∷ r) (omega arith) spelled))

pub returns-clause-read : goal.returns-clause-read
returns-clause-read c = record {
  spelled = search rules;
  whole = λ e r spelled.
      same_rest (sym c.in_ok-rest.ensures.found ∙ c.in_ok-value.ensures.read.whole e (MarkToken Semicolon ∷ r) (omega arith) spelled);
}
