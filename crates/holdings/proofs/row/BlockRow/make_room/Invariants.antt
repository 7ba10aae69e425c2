use Rattle.std.proofs.Common.{◌≡◌, ◌+◌, ◌-◌, ℕ, length}
use Rattle.holdings.specs.Rows.{IsAsBefore, block_in}
use Rattle.holdings.proofs.row.BlockRow.make_room.Given as goal

-- only empty blocks have been added so far
abbrev pub invariant-room : goal.invariant-room
invariant-room l =
    ((b : ℕ) → IsAsBefore (block_in l.initial.self b) (block_in l.self b))
    × (l.self.first ≡ l.initial.self.first)

abbrev pub decreases-room : goal.decreases-room
decreases-room l = l.number + 1 - (l.self.first + length l.self.blocks.items)
