use Rattle.types.proofs.Readings.{number_same, truth_same}
use Rattle.types.proofs.laws.values_depend_on_indexed_sections.Goals as goal

pub returns-clause-number : goal.returns-clause-number
returns-clause-number c = number_same

pub returns-clause-truth : goal.returns-clause-truth
returns-clause-truth c = truth_same
