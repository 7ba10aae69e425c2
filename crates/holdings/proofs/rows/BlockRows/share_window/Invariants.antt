use Rattle.std.proofs.Common.{◌≡◌}
use Rattle.sections.specs.Covers.{is_in}
use Rattle.sections.specs.Translation.{window as window_of}
use Rattle.blocks.specs.Held.{IsThere, as_shared, numbers}
use Rattle.holdings.specs.Pieces.{taking}
use Rattle.holdings.specs.Rows.{held_in}
use Rattle.holdings.proofs.rows.BlockRows.share_window.Given as goal

-- with the rest all copies are there
abbrev pub invariant-pieces : goal.invariant-pieces
invariant-pieces l =
    IsThere (is_in (window_of l.rest)) (numbers (held_in l.source))
    × (taking (is_in (window_of l.rest)) (as_shared (numbers (held_in l.source))) (held_in l.self)
    ≡ taking (is_in (window_of l.fn.window)) (as_shared (numbers (held_in l.source))) (held_in l.initial.self))

abbrev pub decreases-pieces : goal.decreases-pieces
decreases-pieces l = l.rest.len
