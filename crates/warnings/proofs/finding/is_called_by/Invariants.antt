use Rattle.std.proofs.Common.{◌≡◌, drop, map}
use Rattle.types.specs.Translation.{procedure}
use Rattle.warnings.specs.Warnings.{called_by}
use Rattle.warnings.proofs.finding.is_called_by.Given as goal

-- if one of the remaining procedures calls it, one of all does
abbrev pub invariant-loop-other : goal.invariant-loop-other
invariant-loop-other l =
    called_by l.fn.number l.other (map procedure (drop l.other l.procedures))
    ≡ called_by l.fn.number 0 (map procedure l.procedures)
