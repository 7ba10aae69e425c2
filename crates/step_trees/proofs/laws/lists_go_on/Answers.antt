use Rattle.types.specs.Contents.{held_by}
use Rattle.types.specs.TreeSteps.{first_tree}
use Rattle.step_trees.proofs.Extending.{beyond}
use Rattle.step_trees.proofs.laws.lists_go_on.Goals as goal

pub returns : goal.returns
returns c p input choices further o e = beyond p 0 choices (first_tree p) (held_by input) further o e
