use Rattle.std.proofs.Common.{sym, ◌∙◌}
use Rattle.syntax.proofs.RefusalLemmas.{passed_on, same_rest}
use Rattle.syntax.proofs.programs.section.Goals as goal

pub returns-in_err-name-clause-refused : goal.returns-in_err-name-clause-refused
returns-in_err-name-clause-refused c =
    passed_on _ _ c.from_residual.ensures.1 (λ room x e r spelled.
    c.in_err-name.ensures.refused room _ _ spelled)

pub returns-in_err-rest-clause-refused : goal.returns-in_err-rest-clause-refused
returns-in_err-rest-clause-refused c =
    passed_on _ _ c.from_residual-in_err-rest.ensures.1 (λ room x e r spelled.
    let colon = same_rest (sym c.in_ok-name.ensures.found ∙ spelled) in
    c.in_err-rest.ensures.refused _ colon)

pub returns-in_err-element-clause-refused : goal.returns-in_err-element-clause-refused
returns-in_err-element-clause-refused c =
    passed_on _ _ c.from_residual-in_err-element.ensures.1 (λ room x e r spelled.
    let colon = same_rest (sym c.in_ok-name.ensures.found ∙ spelled) in
    let element = same_rest (sym c.in_ok-rest.ensures.found ∙ colon) in
    c.in_err-element.ensures.refused room e r element)

pub returns-clause-whole : goal.returns-clause-whole
returns-clause-whole c = λ x e r spelled.
    let colon = same_rest (sym c.in_ok-name.ensures.found ∙ spelled) in
    let element = same_rest (sym c.in_ok-rest.ensures.found ∙ colon) in
    c.in_ok-element.ensures.read.whole e r element
