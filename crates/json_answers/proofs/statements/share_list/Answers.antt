use Rattle.std.proofs.Common.{ap, length, arith, refl}
use Rattle.json_answers.specs.Statements.{share_json}
use Rattle.json_answers.proofs.StatementValues.{all_values, got, one_more_value, share_told}
use Rattle.json_answers.proofs.statements.share_list.Goals as goal

pub loop-number-preserved : goal.loop-number-preserved
loop-number-preserved c =
    let s = c.args.statements.now in
    let work = c.args.work.now in
    let span = c.args.span.now in
    let n = c.loop-number.number in
    let share = c.share_at-share.ensures in
    rw c.in_ok-push.ensures.items
    (one_more_value (share_json s work span) s.places.items n _ _ _ _
    (omega (arith, c.loop-number-test.true, ap length c.deref-place-items.ensures.value))
    (got c.deref-place-items.result.now s.places.items n _ _ c.deref-place-items.ensures.value refl) c.loop-number.invariant
    (share_told s work span n _ _ _ _ _ c.in_ok-text.ensures share.work share.span c.in_ok-share_value.ensures))

pub returns : goal.returns
returns c =
    let s = c.args.statements.now in
    all_values (share_json s c.args.work.now c.args.span.now) s c.loop-number.number c.loop-number.list
    (omega (arith, c.loop-number-test.false, ap length c.deref-place-items.ensures.value)) c.loop-number.invariant
