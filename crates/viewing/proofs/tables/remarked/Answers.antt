use Rattle.std.proofs.Common.{arith, refl}
use Rattle.viewing.specs.Views.{remark_at}
use Rattle.viewing.proofs.Remarked.{one_more_remarked}
use Rattle.viewing.proofs.tables.remarked.Goals as goal

pub loop-number-preserved : goal.loop-number-preserved
loop-number-preserved c =
    one_more_remarked (remark_at c.args.remarks.now) c.args.lines.now c.loop-number.number _ _ _ _ _ _ (omega arith)
    refl c.at.ensures c.in_ok-push_line.ensures c.loop-number.invariant
