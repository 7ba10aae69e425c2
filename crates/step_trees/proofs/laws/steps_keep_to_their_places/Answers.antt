use Rattle.step_trees.proofs.PlacesRead.{same_step}
use Rattle.step_trees.proofs.laws.steps_keep_to_their_places.Goals as goal

pub returns : goal.returns
returns c = same_step
