use Rattle.types.proofs.Adds.{only_adds}
use Rattle.types.proofs.laws.meaning_only_adds.Goals as goal

pub returns : goal.returns
returns c = only_adds
