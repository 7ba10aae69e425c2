use Rattle.std.proofs.Common.{arith, refl}
use Rattle.commands.proofs.Named.{one_more_head}
use Rattle.commands.proofs.statements.heads_among.Goals as goal

pub loop-number-preserved : goal.loop-number-preserved
loop-number-preserved c =
    one_more_head c.args.plain.now c.args.listing.now c.loop-number.number _ _ c.has_label.result
    c.line_at.result.now _ _ _ (omega arith) refl c.has_label.ensures c.line_at.ensures c.in_ok-push_head.ensures
    c.loop-number.invariant
