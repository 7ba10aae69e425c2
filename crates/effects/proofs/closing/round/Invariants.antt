use Rattle.effects.proofs.ClosingLemmas.{Rounded}
use Rattle.effects.proofs.closing.round.Given as goal

-- the labels that the flows so far brought are reached; if none was new, they were there before
abbrev pub invariant-loop-flow : goal.invariant-loop-flow
invariant-loop-flow l = Rounded l.flows l.initial.table.items l.table.items l.grown l.flow-index
