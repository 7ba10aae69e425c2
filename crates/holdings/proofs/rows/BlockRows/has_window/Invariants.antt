use Rattle.std.proofs.Common.{◌↔◌}
use Rattle.sections.specs.Covers.{is_in}
use Rattle.sections.specs.Translation.{window as window_of}
use Rattle.blocks.specs.Held.{IsThere}
use Rattle.holdings.specs.Rows.{held_in}
use Rattle.holdings.specs.Wanted.{wanted}
use Rattle.holdings.proofs.rows.BlockRows.has_window.Given as goal

-- all places are there if the rest are
abbrev pub invariant-pieces : goal.invariant-pieces
invariant-pieces l =
    IsThere (is_in (window_of l.fn.window)) (wanted l.want (held_in l.self))
    ↔ IsThere (is_in (window_of l.rest)) (wanted l.want (held_in l.self))

abbrev pub decreases-pieces : goal.decreases-pieces
decreases-pieces l = l.rest.len
