use Rattle.step_trees.proofs.KnownLabels.{labels_known}
use Rattle.step_trees.proofs.laws.labels_of_leaves_meet.Goals as goal

pub returns : goal.returns
returns c = labels_known
