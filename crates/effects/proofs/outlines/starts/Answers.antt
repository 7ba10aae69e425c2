use Rattle.std.proofs.Common.{refl}
use Rattle.effects.specs.Roots.{root_in}
use Rattle.effects.specs.Starts.{starts_of}
use Rattle.effects.specs.Visits.{visit}
use Rattle.effects.proofs.ClosingLemmas.{got}
use Rattle.effects.proofs.OutlineLemmas.{added_more}
use Rattle.effects.proofs.outlines.starts.Goals as goal

pub loop-visit-preserved : goal.loop-visit-preserved
loop-visit-preserved c =
    let k = c.loop-visit.visit-index in
    let visits = c.args.visits.now in
    added_more (starts_of (root_in c.args.roots.now)) visit visits k c.visit-item.result c.loop-visit.starts.items _ _
    (got visits visits k c.visit-item.result refl c.loop-visit-test.true c.visit-item.is) c.in_ok-start_visit.ensures c.loop-visit.invariant
