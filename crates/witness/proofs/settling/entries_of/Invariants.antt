use Rattle.types.specs.Translation.{program}
use Rattle.witness.specs.Settled.{ListsAll}
use Rattle.witness.proofs.settling.entries_of.Given as goal

-- all entries of the last procedures
abbrev pub invariant-loop-number : goal.invariant-loop-number
invariant-loop-number l = ListsAll (program l.code) l.number l.entries.items

-- all entries, some of them twice
abbrev pub invariant-loop-again : goal.invariant-loop-again
invariant-loop-again l = ListsAll (program l.code) 0 l.entries.items
