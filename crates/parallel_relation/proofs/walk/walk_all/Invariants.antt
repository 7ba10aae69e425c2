use Rattle.types.specs.Translation.{program}
use Rattle.parallel_relation.specs.Around.{Adds}
use Rattle.parallel_relation.specs.Found.{FoundMeets}
use Rattle.parallel_relation.proofs.PairsLemmas.{ArisesBelow}
use Rattle.parallel_relation.proofs.walk.walk_all.Given as goal

-- the pairs of the procedures so far are found
abbrev pub invariant-loop-procedure : goal.invariant-loop-procedure
invariant-loop-procedure l =
    let p = program l.code in
    Adds (FoundMeets p l.initial.found) (ArisesBelow p l.procedure-index) (FoundMeets p l.found)
