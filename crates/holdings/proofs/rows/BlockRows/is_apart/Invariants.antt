use Rattle.std.proofs.Common.{◌+◌, ◌<◌, ℕ}
use Rattle.holdings.proofs.RoomLemmas.{ApartAt}
use Rattle.holdings.proofs.rows.BlockRows.is_apart.Given as goal

-- the blocks so far are disjoint
abbrev pub invariant-loop-at : goal.invariant-loop-at
invariant-loop-at l = (j : ℕ) → j < l.row.first + l.at → ApartAt l.self.list.items l.array l.row j
