use Rattle.std.proofs.Common.{◌∷◌, ◌∙◌, ap, map}
use Rattle.syntax.specs.Spelling.{block_then, parameters_then, procedures_then}
use Rattle.syntax_tree.specs.Tree.{parameter}
use Rattle.syntax.proofs.ChainLemmas.{behind, behind_first}
use Rattle.syntax.specs.declared.token.Mark.TheVariants.{LeftBrace}
use Rattle.syntax.specs.Token.{MarkToken}
use Rattle.syntax.proofs.RefusalLemmas.{passed_on, same_rest}
use Rattle.syntax.proofs.programs.procedure.Goals as goal

pub returns-clause-read : goal.returns-clause-read
unfolding procedures_then
returns-clause-read c = record {
  spelled = let parameters = c.in_ok-parameters.ensures.read.spelled
      ∙ ap (parameters_then (map parameter c.in_ok-parameters.parameters.items))
      (behind c.in_ok-body.ensures.read.spelled) in
      behind (c.in_ok-name.ensures.found ∙ behind (c.in_ok-rest.ensures.found ∙ behind parameters));
  whole = λ p r spelled.
      let opening = behind_first c.in_ok-name.ensures.found (same_rest spelled) in
      let parameters = behind_first c.in_ok-rest.ensures.found opening in
      let body = c.in_ok-parameters.ensures.read.whole p.parameters (MarkToken LeftBrace ∷ block_then p.body r) parameters in
      c.in_ok-body.ensures.read.whole p.body r body;
}

pub returns-in_err-name-clause-refused : goal.returns-in_err-name-clause-refused
unfolding procedures_then
returns-in_err-name-clause-refused c =
    passed_on _ _ c.from_residual.ensures.1 (λ room p r spelled.
    c.in_err-name.ensures.refused room _ _ (same_rest spelled))

pub returns-in_err-rest-clause-refused : goal.returns-in_err-rest-clause-refused
unfolding procedures_then
returns-in_err-rest-clause-refused c =
    passed_on _ _ c.from_residual-in_err-rest.ensures.1 (λ room p r spelled.
    c.in_err-rest.ensures.refused _ (behind_first c.in_ok-name.ensures.found (same_rest spelled)))

pub returns-in_err-parameters-clause-refused : goal.returns-in_err-parameters-clause-refused
unfolding procedures_then
returns-in_err-parameters-clause-refused c =
    passed_on _ _ c.from_residual-in_err-parameters.ensures.1 (λ room p r spelled.
    let opening = behind_first c.in_ok-name.ensures.found (same_rest spelled) in
    c.in_err-parameters.ensures.refused room p.parameters (MarkToken LeftBrace ∷ block_then p.body r)
    (behind_first c.in_ok-rest.ensures.found opening))

pub returns-in_err-body-clause-refused : goal.returns-in_err-body-clause-refused
unfolding procedures_then
returns-in_err-body-clause-refused c =
    passed_on _ _ c.from_residual-in_err-body.ensures.1 (λ room p r spelled.
    let opening = behind_first c.in_ok-name.ensures.found (same_rest spelled) in
    let parameters = behind_first c.in_ok-rest.ensures.found opening in
    let body = c.in_ok-parameters.ensures.read.whole p.parameters (MarkToken LeftBrace ∷ block_then p.body r) parameters in
    c.in_err-body.ensures.refused room p.body r body)
