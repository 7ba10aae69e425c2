use Rattle.types.proofs.Keeps.{run_keeps}
use Rattle.types.proofs.laws.runs_keep_what_operations_keep.Goals as goal

pub returns : goal.returns
returns g c p r kept = run_keeps p r g.R.Following.follows kept
