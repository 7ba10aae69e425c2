use Rattle.std.proofs.Common.{◌≡◌, ◌+◌, ◌≤◌, min, drop}
use Rattle.types.specs.Translation.{codes}
use Rattle.cost.specs.Shares.{share_of}
use Rattle.cost.proofs.shares.+count.Given as goal

-- the count and what is left add up to the total
abbrev pub invariant-in_block-loop-stmt : goal.invariant-in_block-loop-stmt
invariant-in_block-loop-stmt l =
    (min (l.sum + share_of l.table (codes (drop l.stmt-index l.block))) 18446744073709551615
    ≡ min (share_of l.table (codes l.block)) 18446744073709551615)
    × (l.sum ≤ 18446744073709551615)
