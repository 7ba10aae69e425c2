use Rattle.std.proofs.Common.{◌≡◌, ◌≤◌, ◌-◌, ℕ, None, length, slice_get}
use Rattle.holdings.specs.Rows.{held_of}
use Rattle.holdings.proofs.row.BlockRow.empty.Given as goal

-- those so far hold nothing
abbrev pub invariant-fill : goal.invariant-fill
invariant-fill l = ((i k : ℕ) → held_of (slice_get l.blocks.items i) k ≡ None) × (length l.blocks.items ≤ l.count)

abbrev pub decreases-fill : goal.decreases-fill
decreases-fill l = l.count - length l.blocks.items
