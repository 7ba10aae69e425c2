use Rattle.std.proofs.Common.{◌≡◌, length}
use Rattle.layout.specs.Laid.{trimmed}
use Rattle.layout.proofs.pieces.trimmed.Given as goal

-- what was removed is not kept
abbrev pub invariant-loop-last : goal.invariant-loop-last
invariant-loop-last l = trimmed l.kept ≡ trimmed l.fn.text

abbrev pub decreases-loop-last : goal.decreases-loop-last
decreases-loop-last l = length l.kept
