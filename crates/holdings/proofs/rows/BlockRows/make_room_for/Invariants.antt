use Rattle.std.proofs.Common.{◌≡◌, ◌<◌, ℕ, Some}
use Rattle.blocks.specs.declared.block.Block.{Block}
use Rattle.holdings.specs.Rooms.{HasRoom}
use Rattle.holdings.specs.Rows.{block_of, held_in}
use Rattle.holdings.proofs.rows.BlockRows.make_room_for.Given as goal

-- there is room for the rows so far
abbrev pub invariant-loop-array : goal.invariant-loop-array
invariant-loop-array l =
    (held_in l.self ≡ held_in l.initial.self)
    × ((i j : ℕ) (theirs : Block) → i < l.array → block_of l.others.list.items i j ≡ Some theirs → HasRoom l.self.list.items i j theirs)
