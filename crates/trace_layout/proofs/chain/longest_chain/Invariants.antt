use Rattle.std.proofs.Common.{◌≡◌, length}
use Rattle.trace_numbers.proofs.Spans.{IsAt}
use Rattle.trace_layout.proofs.chain.longest_chain.Given as goal

abbrev pub invariant-loop-number : goal.invariant-loop-number
invariant-loop-number l = record {
  chains : IsAt l.events l.number l.chains;
  before : length l.links.before.items ≡ l.number;
}
