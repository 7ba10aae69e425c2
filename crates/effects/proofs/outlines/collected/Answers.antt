use Rattle.std.proofs.lemmas.Option.{slice_get-get_or}
use Rattle.effects.proofs.OutlineLemmas.{collected_more, collected_all}
use Rattle.effects.proofs.outlines.collected.Goals as goal

pub loop-start-preserved : goal.loop-start-preserved
loop-start-preserved c =
    collected_more c.args.starts.now c.loop-start.start-index _ c.loop-start.summary c.insert.new.self
    (slice_get-get_or c.args.starts.now c.loop-start.start-index _ c.loop-start-test.true) c.loop-start.invariant c.in_ok-insert.ensures

pub returns : goal.returns
returns c = collected_all c.args.starts.now c.loop-start.start-index c.loop-start.summary c.loop-start-test.false c.loop-start.invariant
