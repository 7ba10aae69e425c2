use Rattle.warnings.proofs.Unfitting.{store_faults}
use Rattle.warnings.proofs.laws.unfitting_constants_are_faults.Goals as goal

pub returns : goal.returns
returns c = store_faults
