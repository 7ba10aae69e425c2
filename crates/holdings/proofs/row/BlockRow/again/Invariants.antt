use Rattle.std.proofs.Common.{◌≡◌, length, take}
use Rattle.holdings.proofs.CopyLemmas.{AreAlike}
use Rattle.holdings.proofs.row.BlockRow.again.Given as goal

-- the blocks so far hold the same
abbrev pub invariant-loop-block : goal.invariant-loop-block
invariant-loop-block l =
    AreAlike l.blocks.items (take l.block-index l.self.blocks.items) × (length l.blocks.items ≡ l.block-index)
