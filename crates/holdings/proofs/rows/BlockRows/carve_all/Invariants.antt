use Rattle.std.proofs.Common.{length}
use Rattle.holdings.specs.Rows.{held_in}
use Rattle.holdings.proofs.CarveListLemmas.{CarveSoFar}
use Rattle.holdings.proofs.rows.BlockRows.carve_all.Given as goal

-- what isn't left of all that was cut out has moved
abbrev pub invariant-carvings : goal.invariant-carvings
invariant-carvings l =
    CarveSoFar (held_in l.initial.self) (held_in l.initial.others) l.initial.list.items
    l.self.list.items l.others.list.items l.list.items

abbrev pub decreases-carvings : goal.decreases-carvings
decreases-carvings l = length l.list.items
