use Rattle.std.proofs.Common.{◌≡◌, ℕ, ◌<◌, None}
use Rattle.blocks.specs.Blocks.{held_at, owned_at}
use Rattle.blocks.proofs.block.Block.is_within.Given as goal

-- so far the other owns all that is held
abbrev pub invariant-loop-offset : goal.invariant-loop-offset
invariant-loop-offset l =
    (k : ℕ) → k < l.offset → (held_at l.self k ≡ None → ⊥) → owned_at l.other k ≡ None → ⊥
