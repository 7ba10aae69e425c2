use Rattle.std.proofs.Common.{◌≡◌, ℕ, ◌<◌, None, false}
use Rattle.blocks.specs.Blocks.{held_at}
use Rattle.blocks.specs.Offsets.{in_range}
use Rattle.blocks.proofs.block.Block.holds_only.Given as goal

-- so far nothing is held outside the range
abbrev pub invariant-loop-offset : goal.invariant-loop-offset
invariant-loop-offset l = (k : ℕ) → k < l.offset → in_range l.from l.to k ≡ false → held_at l.self k ≡ None
