use Rattle.std.proofs.Common.{arith}
use Rattle.trace_numbers.proofs.Holders.{held_at_first, held_more}
use Rattle.trace_numbers.proofs.hands.steps_of_workers.Goals as goal

pub loop-event-init : goal.loop-event-init
loop-event-init c = held_at_first c.args.events.now c.in_ok-hands.hands c.in_ok-hands.ensures

pub loop-event-preserved : goal.loop-event-preserved
loop-event-preserved c =
    held_more c.args.events.now c.loop-event.event-index c.event-item.result _ c.loop-event.hands c.happens.new.self (omega arith)
    c.event-item.is c.loop-event.invariant c.in_ok-happens.ensures
