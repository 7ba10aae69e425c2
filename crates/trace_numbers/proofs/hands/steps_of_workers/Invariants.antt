use Rattle.trace_numbers.proofs.Holders.{IsHeld}
use Rattle.trace_numbers.proofs.hands.steps_of_workers.Given as goal

abbrev pub invariant-loop-event : goal.invariant-loop-event
invariant-loop-event l = IsHeld l.events l.event-index l.hands
