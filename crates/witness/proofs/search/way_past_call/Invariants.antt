use Rattle.std.proofs.Common.{length}
use Rattle.witness.specs.Known.{steps}
use Rattle.witness.specs.Least.{IsLeast, all_covered}
use Rattle.witness.proofs.Knowns.{GoesBelow}
use Rattle.witness.proofs.search.way_past_call.Given as goal

-- the shortest by the parameters so far
abbrev pub invariant-loop-number : goal.invariant-loop-number
invariant-loop-number l =
    IsLeast length all_covered
    (GoesBelow l.known l.sought.pending l.procedure.number l.sections l.sought.access.section.number l.step l.number) (steps l.best)
