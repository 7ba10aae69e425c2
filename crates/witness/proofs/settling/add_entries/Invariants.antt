use Rattle.witness.specs.Settled.{AreAdded}
use Rattle.witness.proofs.settling.add_entries.Given as goal

-- both entries of the parameters so far
abbrev pub invariant-loop-number : goal.invariant-loop-number
invariant-loop-number l = AreAdded l.procedure.number l.number l.initial.entries.items l.entries.items
