use Rattle.std.proofs.Common.{◌+◌, ◌*◌}
use Rattle.witness.proofs.sharing.+nearest.Given as goal

abbrev pub decreases-nearest : goal.decreases-nearest
decreases-nearest l = 2 * (l.first.number + l.second.number) + 1

abbrev pub decreases-nearest_above : goal.decreases-nearest_above
decreases-nearest_above l = 2 * (l.low.number + l.high.number)
