use Rattle.std.proofs.Common.{◌<◌, ℕ}
use Rattle.holdings.proofs.RoomLemmas.{RowsApart}
use Rattle.holdings.proofs.rows.BlockRows.are_apart.Given as goal

-- the rows so far are disjoint
abbrev pub invariant-loop-array : goal.invariant-loop-array
invariant-loop-array l = (i : ℕ) → i < l.array → RowsApart l.self.list.items l.others.list.items i
