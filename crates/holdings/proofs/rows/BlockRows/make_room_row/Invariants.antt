use Rattle.std.proofs.Common.{◌≡◌, ◌+◌, ◌<◌, ℕ, Some, false}
use Rattle.std.specs.Prelude.{nat_eq}
use Rattle.blocks.specs.declared.block.Block.{Block}
use Rattle.holdings.specs.Rooms.{HasRoom}
use Rattle.holdings.specs.Rows.{block_in, held_in}
use Rattle.holdings.proofs.rows.BlockRows.make_room_row.Given as goal

-- there is room for the blocks so far
abbrev pub invariant-loop-at : goal.invariant-loop-at
invariant-loop-at l =
    (held_in l.self ≡ held_in l.initial.self)
    × ((j : ℕ) (theirs : Block) → j < l.row.first + l.at → block_in l.row j ≡ Some theirs → HasRoom l.self.list.items l.array j theirs)
    × ((i j : ℕ) (b : Block) → HasRoom l.initial.self.list.items i j b → nat_eq i l.array ≡ false → HasRoom l.self.list.items i j b)
