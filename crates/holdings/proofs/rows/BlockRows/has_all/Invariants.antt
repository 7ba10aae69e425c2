use Rattle.std.proofs.Common.{map, take}
use Rattle.sections.specs.Covers.{has}
use Rattle.sections.specs.Translation.{window as window_of}
use Rattle.blocks.specs.Held.{IsThere}
use Rattle.holdings.specs.Rows.{held_in}
use Rattle.holdings.specs.Wanted.{wanted}
use Rattle.holdings.proofs.rows.BlockRows.has_all.Given as goal

-- all places of the windows so far meet the requirement
abbrev pub invariant-loop-window : goal.invariant-loop-window
invariant-loop-window l =
    IsThere (has (map window_of (take l.window-index l.windows))) (wanted l.want (held_in l.self))
