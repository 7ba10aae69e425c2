use Rattle.std.proofs.Common.{◌≡◌, ◌+◌, ◌≤◌, min, drop, map}
use Rattle.types.specs.Translation.{procedure}
use Rattle.printing.specs.Labels.{labels_in_procedures}
use Rattle.printing.proofs.labels.in_procedures.Given as goal

-- the count and those that are left add up to the total
abbrev pub invariant-loop-procedure : goal.invariant-loop-procedure
invariant-loop-procedure l =
    (min (l.sum + labels_in_procedures (map procedure (drop l.procedure-index l.procedures))) 18446744073709551615
    ≡ min (labels_in_procedures (map procedure l.procedures)) 18446744073709551615)
    × (l.sum ≤ 18446744073709551615)
