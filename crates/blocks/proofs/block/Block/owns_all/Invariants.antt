use Rattle.std.proofs.Common.{◌≡◌, ℕ, ◌≤◌, ◌<◌, None}
use Rattle.blocks.specs.Blocks.{owned_at}
use Rattle.blocks.proofs.block.Block.owns_all.Given as goal

-- so far each offset has a number
abbrev pub invariant-loop-offset : goal.invariant-loop-offset
invariant-loop-offset l = (k : ℕ) → l.from ≤ k → k < l.offset → owned_at l.self k ≡ None → ⊥
