use Rattle.std.proofs.Common.{length}
use Rattle.holdings.specs.Rows.{held_in}
use Rattle.holdings.proofs.PasteLemmas.{RowsSoFar}
use Rattle.holdings.proofs.rows.BlockRows.paste_all.Given as goal

-- all rows except the remaining ones have come in
abbrev pub invariant-rows : goal.invariant-rows
invariant-rows l =
    RowsSoFar (held_in l.initial.self) l.self.list.items l.fn.others.list.items l.list.items l.copied

abbrev pub decreases-rows : goal.decreases-rows
decreases-rows l = length l.list.items
