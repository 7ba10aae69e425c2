use Rattle.types.proofs.Labels.{labels_are_counted}
use Rattle.types.proofs.laws.labels_are_counted.Goals as goal

pub returns : goal.returns
returns c = labels_are_counted
