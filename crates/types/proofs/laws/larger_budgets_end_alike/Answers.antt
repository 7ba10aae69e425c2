use Rattle.types.proofs.Larger.{larger_ends, one_ending}
use Rattle.types.proofs.laws.larger_budgets_end_alike.Goals as goal

pub returns-clause-same : goal.returns-clause-same
returns-clause-same c = larger_ends

pub returns-clause-one : goal.returns-clause-one
returns-clause-one c = one_ending
