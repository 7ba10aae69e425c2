use Rattle.std.proofs.Common.{length}
use Rattle.warnings.proofs.telling.procedure.Given as goal

-- the tokens that are left
abbrev pub decreases-tokens : goal.decreases-tokens
decreases-tokens l = length l.left
