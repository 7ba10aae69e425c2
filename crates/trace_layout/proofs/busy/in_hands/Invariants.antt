use Rattle.std.proofs.Common.{take}
use Rattle.trace_layout.specs.Busy.{AreInHands}
use Rattle.trace_layout.proofs.busy.in_hands.Given as goal

abbrev pub invariant-loop-spell : goal.invariant-loop-spell
invariant-loop-spell l = AreInHands (take l.spell-index l.spells) l.events l.counts.items
