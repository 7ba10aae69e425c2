use Rattle.std.proofs.Common.{◌≡◌, drop}
use Rattle.types.specs.Translation.{codes}
use Rattle.warnings.specs.Ends.{block_may_leave}
use Rattle.warnings.proofs.ends.+leaves.Given as goal

-- if one of the remaining statements may leave a task, one of all may
abbrev pub invariant-block_may_leave-loop-stmt : goal.invariant-block_may_leave-loop-stmt
invariant-block_may_leave-loop-stmt l =
    block_may_leave (codes (drop l.stmt-index l.block)) ≡ block_may_leave (codes l.block)
