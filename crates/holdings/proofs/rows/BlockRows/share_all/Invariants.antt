use Rattle.std.proofs.Common.{◌≡◌, map, take}
use Rattle.sections.specs.Covers.{has}
use Rattle.sections.specs.Translation.{window as window_of}
use Rattle.blocks.specs.Held.{as_shared, numbers}
use Rattle.holdings.specs.Pieces.{taking}
use Rattle.holdings.specs.Rows.{held_in}
use Rattle.holdings.proofs.rows.BlockRows.share_all.Given as goal

-- copies of the windows so far are there
abbrev pub invariant-loop-window : goal.invariant-loop-window
invariant-loop-window l =
    held_in l.self ≡ taking (has (map window_of (take l.window-index l.windows)))
    (as_shared (numbers (held_in l.source))) (held_in l.initial.self)
