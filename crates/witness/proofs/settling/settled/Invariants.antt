use Rattle.types.specs.Translation.{program}
use Rattle.effects.specs.Translation.{access}
use Rattle.witness.specs.Known.{AreWays}
use Rattle.witness.specs.Settled.{total}
use Rattle.witness.proofs.settling.settled.Given as goal

-- the known ways are ways
abbrev pub invariant-loop-known : goal.invariant-loop-known
invariant-loop-known l = AreWays (program l.code) (access l.access) l.known

-- each further round shortens one
abbrev pub decreases-loop-known : goal.decreases-loop-known
decreases-loop-known l = total l.entries.items l.known
