use Rattle.std.proofs.Common.{length}
use Rattle.holdings.specs.Rows.{held_in}
use Rattle.holdings.proofs.PasteLemmas.{PasteSoFar}
use Rattle.holdings.proofs.rows.BlockRows.paste_row.Given as goal

-- all blocks except the remaining ones have come in
abbrev pub invariant-pasting : goal.invariant-pasting
invariant-pasting l =
    PasteSoFar (held_in l.initial.self) l.initial.self.list.items l.self.list.items l.array l.fn.row l.blocks.items l.copied

abbrev pub decreases-pasting : goal.decreases-pasting
decreases-pasting l = length l.blocks.items
