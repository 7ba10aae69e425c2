use Rattle.effects.specs.Effects.{accesses}
use Rattle.parallel_relation.proofs.Ordering.{meet_turned, labels_turned}
use Rattle.parallel_relation.proofs.laws.pairs_have_no_order.Goals as goal

pub returns-clause-accesses : goal.returns-clause-accesses
returns-clause-accesses c p = meet_turned p accesses

pub returns-clause-labels : goal.returns-clause-labels
returns-clause-labels c = labels_turned
