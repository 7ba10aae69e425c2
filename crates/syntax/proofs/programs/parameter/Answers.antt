use Rattle.std.proofs.Common.{sym, ◌∙◌}
use Rattle.syntax.specs.Spelling.{parameter_then}
use Rattle.syntax.proofs.ChainLemmas.{behind}
use Rattle.syntax.proofs.RefusalLemmas.{passed_on, same_rest}
use Rattle.syntax.proofs.ProgramRefusals.{mut_opened, read_opened, scalar_opened}
use Rattle.syntax.proofs.programs.parameter.Goals as goal

pub returns-in-Some-clause-read : goal.returns-in-Some-clause-read
unfolding parameter_then
returns-in-Some-clause-read c = record {
  spelled = c.in-Some.ensures.found ∙ behind c.in_ok-name.ensures.spelled;
  whole = λ p r spelled.
      let parts = mut_opened p _ r (sym c.in-Some.ensures.found ∙ spelled) in
      c.in_ok-name.ensures.whole parts.0 parts.1 r parts.2;
}

pub returns-in-Some-after_word-clause-read : goal.returns-in-Some-after_word-clause-read
unfolding parameter_then
returns-in-Some-after_word-clause-read c = record {
  spelled = c.in-Some-after_word.ensures.found ∙ behind c.in_ok-name-2.ensures.spelled;
  whole = λ p r spelled.
      let parts = read_opened p _ r (sym c.in-Some-after_word.ensures.found ∙ spelled) in
      c.in_ok-name-2.ensures.whole parts.0 parts.1 r parts.2;
}

pub returns-clause-read : goal.returns-clause-read
unfolding parameter_then
returns-clause-read c = record {
  spelled = c.in_ok-name-3.ensures.found ∙ behind (c.in_ok-rest.ensures.found ∙ behind c.in_ok-rest-2.ensures.found);
  whole = λ p r spelled.
      let parts = scalar_opened p _ r c.in_default.ensures.absent c.in_default-after_word.ensures.absent spelled in
      let colon = same_rest (sym c.in_ok-name-3.ensures.found ∙ parts.1) in
      let word = same_rest (sym c.in_ok-rest.ensures.found ∙ colon) in
      same_rest (sym c.in_ok-rest-2.ensures.found ∙ word);
}

pub returns-in_err-name-clause-refused : goal.returns-in_err-name-clause-refused
returns-in_err-name-clause-refused c =
    passed_on _ _ c.from_residual.ensures.1 (λ room p r spelled.
    let parts = mut_opened p _ r (sym c.in-Some.ensures.found ∙ spelled) in
    c.in_err-name.ensures.refused room parts.0 parts.1 r parts.2)

pub returns-in_err-name-2-clause-refused : goal.returns-in_err-name-2-clause-refused
returns-in_err-name-2-clause-refused c =
    passed_on _ _ c.from_residual-in_err-name-2.ensures.1 (λ room p r spelled.
    let parts = read_opened p _ r (sym c.in-Some-after_word.ensures.found ∙ spelled) in
    c.in_err-name-2.ensures.refused room parts.0 parts.1 r parts.2)

pub returns-in_err-name-3-clause-refused : goal.returns-in_err-name-3-clause-refused
returns-in_err-name-3-clause-refused c =
    passed_on _ _ c.from_residual-in_err-name-3.ensures.1 (λ room p r spelled.
    let parts = scalar_opened p _ r c.in_default.ensures.absent c.in_default-after_word.ensures.absent spelled in
    c.in_err-name-3.ensures.refused room _ _ parts.1)

pub returns-in_err-rest-clause-refused : goal.returns-in_err-rest-clause-refused
returns-in_err-rest-clause-refused c =
    passed_on _ _ c.from_residual-in_err-rest.ensures.1 (λ room p r spelled.
    let parts = scalar_opened p _ r c.in_default.ensures.absent c.in_default-after_word.ensures.absent spelled in
    let colon = same_rest (sym c.in_ok-name-3.ensures.found ∙ parts.1) in
    c.in_err-rest.ensures.refused _ colon)

pub returns-in_err-rest-2-clause-refused : goal.returns-in_err-rest-2-clause-refused
returns-in_err-rest-2-clause-refused c =
    passed_on _ _ c.from_residual-in_err-rest-2.ensures.1 (λ room p r spelled.
    let parts = scalar_opened p _ r c.in_default.ensures.absent c.in_default-after_word.ensures.absent spelled in
    let colon = same_rest (sym c.in_ok-name-3.ensures.found ∙ parts.1) in
    let word = same_rest (sym c.in_ok-rest.ensures.found ∙ colon) in
    c.in_err-rest-2.ensures.refused _ word)
