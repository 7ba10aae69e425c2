use Rattle.std.proofs.Common.{◌≡◌, ℕ, ◌<◌, get_or, length}
use Rattle.std.specs.Prelude.{pos, unwrap_or, nat_lt, if◌then◌else◌}
use Rattle.blocks.specs.Blocks.{number_at}
use Rattle.blocks.proofs.block.Block.copy_to.Given as goal

-- the numbers so far are copied
abbrev pub invariant-loop-offset : goal.invariant-loop-offset
invariant-loop-offset l = (k : ℕ) → k < length l.numbers → get_or l.numbers k (pos 0)
    ≡ (if nat_lt k l.offset then unwrap_or (number_at l.self k) (get_or l.initial.numbers k (pos 0))
    else get_or l.initial.numbers k (pos 0))
