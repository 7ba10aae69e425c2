use Rattle.trace_numbers.proofs.Spans.{IsAt}
use Rattle.trace_layout.proofs.Moved.{AreStolen}
use Rattle.trace_layout.proofs.moves.moves_of.Given as goal

abbrev pub invariant-loop-number : goal.invariant-loop-number
invariant-loop-number l = record {
  chains : IsAt l.events l.number l.chains;
  stolen : AreStolen l.events l.number l.queues.moves.steals.items;
}
