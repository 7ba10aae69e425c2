use Rattle.std.proofs.Common.{length}
use Rattle.explanations.proofs.way.push_way.Given as goal

-- the steps that are left
abbrev pub decreases-steps : goal.decreases-steps
decreases-steps l = length l.left
