use Rattle.trace_numbers.proofs.Spans.{IsAt}
use Rattle.trace_numbers.proofs.chains.span.Given as goal

abbrev pub invariant-loop-event : goal.invariant-loop-event
invariant-loop-event l = IsAt l.events l.event-index l.chains
