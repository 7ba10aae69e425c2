use Rattle.trace_numbers.proofs.Gathering.{AreFound}
use Rattle.trace_numbers.proofs.faults.finish_faults.Given as goal

abbrev pub invariant-loop-event : goal.invariant-loop-event
invariant-loop-event l = AreFound l.events l.event-index l.finishes
