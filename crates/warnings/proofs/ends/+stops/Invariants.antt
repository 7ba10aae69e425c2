use Rattle.std.proofs.Common.{◌≡◌, drop}
use Rattle.types.specs.Translation.{codes}
use Rattle.warnings.specs.Ends.{block_stops}
use Rattle.warnings.proofs.ends.+stops.Given as goal

-- if one of the remaining statements stops, one of all does
abbrev pub invariant-block_stops-loop-stmt : goal.invariant-block_stops-loop-stmt
invariant-block_stops-loop-stmt l = block_stops (codes (drop l.stmt-index l.block)) ≡ block_stops (codes l.block)
