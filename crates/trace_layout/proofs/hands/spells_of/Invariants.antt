use Rattle.std.proofs.Common.{◌≡◌, length}
use Rattle.trace_layout.specs.Hands.{AreHands}
use Rattle.trace_layout.proofs.hands.spells_of.Given as goal

abbrev pub invariant-loop-number : goal.invariant-loop-number
invariant-loop-number l = record {
  hands : AreHands l.events l.number l.hands;
  places : length l.places.items ≡ l.number;
}
