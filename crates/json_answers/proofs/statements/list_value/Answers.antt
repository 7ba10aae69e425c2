use Rattle.std.proofs.Common.{ap, length, arith, refl}
use Rattle.json_answers.specs.Statements.{statement_json}
use Rattle.json_answers.proofs.StatementValues.{all_values, got, one_more_value, statement_told}
use Rattle.json_answers.proofs.statements.list_value.Goals as goal

pub loop-number-preserved : goal.loop-number-preserved
loop-number-preserved c =
    let s = c.args.statements.now in
    let n = c.loop-number.number in
    rw c.in_ok-push.ensures.items
    (one_more_value (statement_json s) s.places.items n _ _ _ _
    (omega (arith, c.loop-number-test.true, ap length c.deref-place-items.ensures.value))
    (got c.deref-place-items.result.now s.places.items n _ _ c.deref-place-items.ensures.value refl) c.loop-number.invariant
    (statement_told s n _ _ _ c.in_ok-text.ensures c.in_ok-statement_value.ensures))

pub returns : goal.returns
returns c =
    let s = c.args.statements.now in
    all_values (statement_json s) s c.loop-number.number c.loop-number.list
    (omega (arith, c.loop-number-test.false, ap length c.deref-place-items.ensures.value)) c.loop-number.invariant
