use Rattle.types.specs.Translation.{program}
use Rattle.plain_code.proofs.Marking.{Rounded}
use Rattle.plain_code.proofs.calm.round.Given as goal

abbrev pub invariant-procedures : goal.invariant-procedures
invariant-procedures l = Rounded (program l.program) l.initial.calm l.calm l.left l.found

abbrev pub decreases-procedures : goal.decreases-procedures
decreases-procedures l = l.left
