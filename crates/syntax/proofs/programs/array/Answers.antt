use Rattle.std.proofs.Common.{◌∙◌}
use Rattle.syntax.specs.Spelling.{arrays_then}
use Rattle.syntax.proofs.ChainLemmas.{behind, behind_first}
use Rattle.syntax.proofs.RefusalLemmas.{passed_on, same_rest}
use Rattle.syntax.proofs.programs.array.Goals as goal

pub returns-clause-read : goal.returns-clause-read
unfolding arrays_then
returns-clause-read c = record {
  spelled = let closing = behind (c.in_ok-rest-2.ensures.found ∙ behind c.in_ok-rest-3.ensures.found) in
      let length = c.in_ok-rest.ensures.found ∙ behind (c.in_ok-length.ensures.found ∙ closing) in
      behind (c.in_ok-name.ensures.spelled ∙ behind (behind (behind length)));
  whole = λ a r spelled.
      let opening = c.in_ok-name.ensures.whole a.name a.element _ (same_rest spelled) in
      let closing = behind_first c.in_ok-length.ensures.found (behind_first c.in_ok-rest.ensures.found opening) in
      behind_first c.in_ok-rest-3.ensures.found (behind_first c.in_ok-rest-2.ensures.found closing);
}

pub returns-in_err-name-clause-refused : goal.returns-in_err-name-clause-refused
unfolding arrays_then
returns-in_err-name-clause-refused c =
    passed_on _ _ c.from_residual.ensures.1 (λ room a r spelled.
    c.in_err-name.ensures.refused room a.name a.element _ (same_rest spelled))

pub returns-in_err-rest-clause-refused : goal.returns-in_err-rest-clause-refused
unfolding arrays_then
returns-in_err-rest-clause-refused c =
    passed_on _ _ c.from_residual-in_err-rest.ensures.1 (λ room a r spelled.
    c.in_err-rest.ensures.refused _ (c.in_ok-name.ensures.whole a.name a.element _ (same_rest spelled)))

pub returns-in_err-length-clause-refused : goal.returns-in_err-length-clause-refused
unfolding arrays_then
returns-in_err-length-clause-refused c =
    passed_on _ _ c.from_residual-in_err-length.ensures.1 (λ room a r spelled.
    let opening = c.in_ok-name.ensures.whole a.name a.element _ (same_rest spelled) in
    c.in_err-length.ensures.refused _ _ (behind_first c.in_ok-rest.ensures.found opening))

pub returns-in_err-rest-2-clause-refused : goal.returns-in_err-rest-2-clause-refused
unfolding arrays_then
returns-in_err-rest-2-clause-refused c =
    passed_on _ _ c.from_residual-in_err-rest-2.ensures.1 (λ room a r spelled.
    let opening = c.in_ok-name.ensures.whole a.name a.element _ (same_rest spelled) in
    c.in_err-rest-2.ensures.refused _
    (behind_first c.in_ok-length.ensures.found (behind_first c.in_ok-rest.ensures.found opening)))

pub returns-in_err-rest-3-clause-refused : goal.returns-in_err-rest-3-clause-refused
unfolding arrays_then
returns-in_err-rest-3-clause-refused c =
    passed_on _ _ c.from_residual-in_err-rest-3.ensures.1 (λ room a r spelled.
    let opening = c.in_ok-name.ensures.whole a.name a.element _ (same_rest spelled) in
    let closing = behind_first c.in_ok-length.ensures.found (behind_first c.in_ok-rest.ensures.found opening) in
    c.in_err-rest-3.ensures.refused _ (behind_first c.in_ok-rest-2.ensures.found closing))
