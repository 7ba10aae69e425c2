use Rattle.std.proofs.Common.{arith}
use Rattle.trace_numbers.proofs.Gathering.{all_found, found_at_first, found_more}
use Rattle.trace_numbers.proofs.faults.finish_faults.Goals as goal

pub loop-event-init : goal.loop-event-init
loop-event-init c = found_at_first c.args.events.now c.start-finishes.result c.start-finishes.ensures

pub loop-event-preserved : goal.loop-event-preserved
loop-event-preserved c =
    found_more c.args.events.now c.loop-event.event-index c.event-item.result _ c.loop-event.finishes c.happens.new.self
    (omega arith) c.event-item.is c.loop-event.invariant c.in_ok-happens.ensures

pub returns : goal.returns
returns c =
    all_found c.args.events.now c.loop-event.event-index c.loop-event.finishes c.loop-event-test.false c.loop-event.invariant
