use Rattle.std.proofs.Common.{◌≡◌, map, take}
use Rattle.sections.specs.Covers.{has}
use Rattle.sections.specs.Translation.{window as window_of}
use Rattle.blocks.specs.Held.{numbers, only, put_all}
use Rattle.holdings.specs.Rows.{held_in}
use Rattle.holdings.proofs.rows.BlockRows.put_all.Given as goal

-- the numbers at the places of the windows so far are written
abbrev pub invariant-loop-window : goal.invariant-loop-window
invariant-loop-window l =
    held_in l.self ≡ put_all (only (has (map window_of (take l.window-index l.windows))) (numbers (held_in l.others))) (held_in l.initial.self)
