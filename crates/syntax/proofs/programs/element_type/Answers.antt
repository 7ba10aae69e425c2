use Rattle.std.proofs.Common.{rules, sym, ◌∙◌}
use Rattle.syntax.proofs.RefusalLemmas.{passed_on, same_rest}
use Rattle.syntax.proofs.ProgramRefusals.{no_element}
use Rattle.syntax.proofs.programs.element_type.Goals as goal

pub returns-in-Some-clause-read : goal.returns-in-Some-clause-read
returns-in-Some-clause-read c = record {
  spelled = search rules;
  whole = λ e r spelled.
      same_rest (sym c.in-Some.ensures.found ∙ spelled);
}

pub returns-in_err-rest-clause-refused : goal.returns-in_err-rest-clause-refused
returns-in_err-rest-clause-refused c =
    passed_on _ _ c.from_residual.ensures.1 (λ room.
    no_element _ c.in_default.ensures.absent c.in_err-rest.ensures.refused)

pub returns-clause-read : goal.returns-clause-read
returns-clause-read c = record {
  spelled = search rules;
  whole = λ e r spelled.
      same_rest (sym c.in_ok-rest.ensures.found ∙ spelled);
}
