use Rattle.std.proofs.Common.{◌≡◌, ◌≤◌, ℕ, map, take}
use Rattle.sections.specs.Covers.{has}
use Rattle.sections.specs.Place.{Place}
use Rattle.sections.specs.Translation.{window as window_of}
use Rattle.blocks.specs.Held.{only}
use Rattle.holdings.specs.Carvings.{IsCut, copied_places, cut_places}
use Rattle.holdings.specs.Copied.{LiesWithin, as_count, carve_copies, split_in}
use Rattle.holdings.specs.Rows.{held_in}
use Rattle.holdings.proofs.rows.BlockRows.cut_all.Given as goal

-- the windows so far were cut out
abbrev pub invariant-loop-window : goal.invariant-loop-window
invariant-loop-window l =
    (held_in l.self ≡ held_in l.initial.self)
    × IsCut l.self.list.items l.others.list.items l.carvings.list.items
    × (held_in l.others ≡ only (copied_places l.carvings.list.items) (held_in l.initial.self))
    × ((q : Place) → has (map window_of (take l.window-index l.windows)) q ≡ cut_places l.carvings.list.items q)
    × ((lengths : ℕ → ℕ) → LiesWithin lengths (held_in l.initial.self)
    → l.carvings.copied ≤ split_in lengths (map window_of (take l.window-index l.windows)))
    × (as_count l.carvings.copied ≡ as_count (carve_copies (held_in l.initial.self) (map window_of (take l.window-index l.windows))))
