use Rattle.std.proofs.Common.{◌+◌, ◌-◌, length}
use Rattle.holdings.specs.Rows.{Widens}
use Rattle.holdings.proofs.rows.BlockRows.make_room.Given as goal

-- only empty rows have been added so far
abbrev pub invariant-rows : goal.invariant-rows
invariant-rows l = Widens l.initial.self.list.items l.self.list.items

abbrev pub decreases-rows : goal.decreases-rows
decreases-rows l = l.array + 1 - length l.self.list.items
