use Rattle.std.proofs.Common.{◌≡◌, ◌+◌, ◌≤◌, min, drop}
use Rattle.types.specs.Statements.{statements}
use Rattle.types.specs.Translation.{codes}
use Rattle.printing.proofs.labels.+count.Given as goal

-- the count and those that are left add up to the total
abbrev pub invariant-in_block-loop-stmt : goal.invariant-in_block-loop-stmt
invariant-in_block-loop-stmt l =
    (min (l.sum + statements (codes (drop l.stmt-index l.block))) 18446744073709551615
    ≡ min (statements (codes l.block)) 18446744073709551615)
    × (l.sum ≤ 18446744073709551615)
