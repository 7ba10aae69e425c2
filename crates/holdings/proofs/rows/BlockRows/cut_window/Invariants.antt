use Rattle.sections.specs.Covers.{is_in}
use Rattle.sections.specs.Translation.{window as window_of}
use Rattle.blocks.specs.Held.{IsThere, owned}
use Rattle.holdings.specs.Rows.{held_in}
use Rattle.holdings.proofs.CutWindowLemmas.{CutSoFar}
use Rattle.holdings.proofs.rows.BlockRows.cut_window.Given as goal

-- the window was cut out so far, and the rest of it is owned
abbrev pub invariant-pieces : goal.invariant-pieces
invariant-pieces l =
    CutSoFar (held_in l.initial.self) (window_of l.fn.window) l.initial.carvings.list.items l.initial.carvings.copied
    l.self.list.items l.others.list.items l.carvings.list.items l.carvings.copied (window_of l.rest)
    × IsThere (is_in (window_of l.rest)) (owned (held_in l.initial.self))

abbrev pub decreases-pieces : goal.decreases-pieces
decreases-pieces l = l.rest.len
