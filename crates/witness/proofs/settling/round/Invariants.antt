use Rattle.types.specs.Translation.{program}
use Rattle.effects.specs.Translation.{access}
use Rattle.witness.specs.Settled.{Rounded}
use Rattle.witness.proofs.settling.round.Given as goal

-- a shorter way was looked for at the entries so far
abbrev pub invariant-loop-entry : goal.invariant-loop-entry
invariant-loop-entry l =
    Rounded (program l.code) (access l.access) l.entries l.entry-index l.better l.initial.known l.known
