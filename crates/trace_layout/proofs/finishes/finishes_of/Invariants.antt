use Rattle.trace_numbers.proofs.Spans.{IsAt}
use Rattle.trace_layout.specs.Scopes.{AreScopes}
use Rattle.trace_layout.proofs.finishes.finishes_of.Given as goal

abbrev pub invariant-loop-number : goal.invariant-loop-number
invariant-loop-number l = record {
  chains : IsAt l.events l.number l.chains;
  scopes : AreScopes l.events l.number l.scopes;
}
