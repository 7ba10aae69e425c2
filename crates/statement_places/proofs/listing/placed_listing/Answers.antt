use Rattle.std.proofs.Common.{refl, arith}
use Rattle.statement_places.proofs.Margins.{one_more_placed}
use Rattle.statement_places.proofs.listing.placed_listing.Goals as goal

pub loop-line-preserved : goal.loop-line-preserved
loop-line-preserved c =
    one_more_placed c.deref-line-items.result.now c.loop-line.line-index _ _ _ _ _ _ _ (omega arith) refl c.in_ok-left.ensures.left
    c.in_ok-left.ensures.text c.loop-line.invariant
