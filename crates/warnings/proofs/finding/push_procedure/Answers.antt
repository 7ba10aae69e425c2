use Rattle.std.proofs.Common.{ap, ap₂, ◌∙◌, ◌++◌}
use Rattle.std.proofs.lemmas.Result.{on_ok_weaker}
use Rattle.std.specs.Prelude.{not}
use Rattle.types.specs.Translation.{codes}
use Rattle.warnings.specs.Warnings.{is_called, parameter_warnings, warn_if}
use Rattle.warnings.specs.declared.warning.Warning.TheVariants.{UnusedProcedure}
use Rattle.warnings.proofs.Found.{three_parts}
use Rattle.warnings.proofs.finding.push_procedure.Goals as goal

pub returns : goal.returns
returns c =
    let n = c.args.number in
    let before = c.args.found.now.items in let first = c.push_if.new.found.items in
    let called = c.is_called-called.ensures ∙ ap (λ p. is_called p n) c.code.ensures.code in
    on_ok_weaker c.push_body.result (three_parts before first c.push_parameters.new.found.items c.push_body.new.found.items _ _ _
    (c.in_ok-push_if.ensures ∙ ap (λ b. before ++ warn_if (not b) (UnusedProcedure n)) called)
    (c.in_ok-push_parameters.ensures
    ∙ ap₂ (λ b xs. first ++ parameter_warnings n (codes b) 0 0 0 xs) c.deref.ensures.value c.parameters_of.ensures))
    c.push_body.ensures
