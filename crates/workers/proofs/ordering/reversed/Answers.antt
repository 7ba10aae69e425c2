use Rattle.workers.proofs.ordering.reversed.Goals as goal

pub returns : goal.returns
returns c = c.reverse.ensures.permutation
