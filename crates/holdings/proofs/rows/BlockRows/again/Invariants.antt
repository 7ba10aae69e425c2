use Rattle.std.proofs.Common.{◌≡◌, length, take}
use Rattle.holdings.proofs.CopyLemmas.{HoldAlike}
use Rattle.holdings.proofs.rows.BlockRows.again.Given as goal

-- the rows so far hold the same
abbrev pub invariant-loop-row : goal.invariant-loop-row
invariant-loop-row l =
    HoldAlike l.list.items (take l.row-index l.self.list.items) × (length l.list.items ≡ l.row-index)
