use Rattle.types.specs.Translation.{program}
use Rattle.parallel_relation.specs.Around.{Adds}
use Rattle.parallel_relation.specs.Rows.{HasAt}
use Rattle.parallel_relation.proofs.SpreadLemmas.{CalledBelow}
use Rattle.parallel_relation.proofs.spread.spread.Given as goal

-- the labels meet what the procedures so far meet
abbrev pub invariant-loop-number : goal.invariant-loop-number
invariant-loop-number l =
    Adds (HasAt l.initial.labels) (CalledBelow (program l.code) (HasAt l.calls) (HasAt l.ends) l.number) (HasAt l.labels)
