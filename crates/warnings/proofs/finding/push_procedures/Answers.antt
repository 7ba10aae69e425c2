use Rattle.std.proofs.Common.{arith, ◌∙◌}
use Rattle.types.specs.Typed.{code_of, program_of}
use Rattle.warnings.proofs.Found.{all_procedures, one_procedure}
use Rattle.warnings.proofs.finding.push_procedures.Goals as goal

pub loop-number-preserved : goal.loop-number-preserved
loop-number-preserved c =
    let typed = c.args.typed.now in
    one_procedure (program_of typed) (code_of typed) c.args.procedures.now c.loop-number.number c.index-procedures-number.result _ _ _
    (omega (arith, c.loop-number-test.true)) c.index-procedures-number.is c.in_ok-push_procedure.ensures
    ∙ c.loop-number.invariant

pub returns : goal.returns
returns c =
    let typed = c.args.typed.now in
    all_procedures (program_of typed) (code_of typed) c.args.procedures.now c.loop-number.number c.loop-number.found.items
    (omega (arith, c.loop-number-test.false))
    ∙ c.loop-number.invariant
