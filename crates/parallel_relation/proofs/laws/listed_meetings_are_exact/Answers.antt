use Rattle.effects.specs.Effects.{accesses, labels}
use Rattle.parallel_relation.proofs.MeetingsExact.{meetings_exact}
use Rattle.parallel_relation.proofs.laws.listed_meetings_are_exact.Goals as goal

pub returns-clause-accesses : goal.returns-clause-accesses
returns-clause-accesses c p = meetings_exact p accesses

pub returns-clause-labels : goal.returns-clause-labels
returns-clause-labels c p = meetings_exact p labels
