use Rattle.std.proofs.Common.{◌≡◌, ℕ, ◌<◌, None}
use Rattle.blocks.specs.Blocks.{owned_at}
use Rattle.blocks.proofs.block.Block.is_apart.Given as goal

-- so far nothing is owned by both
abbrev pub invariant-loop-offset : goal.invariant-loop-offset
invariant-loop-offset l =
    (k : ℕ) → k < l.offset → (owned_at l.other k ≡ None → ⊥) → owned_at l.self k ≡ None
