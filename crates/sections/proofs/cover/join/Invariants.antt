use Rattle.std.proofs.Common.{◌≡◌, ◌++◌, map, drop}
use Rattle.sections.specs.Translation.{window}
use Rattle.sections.proofs.Covering.{joined_from}
use Rattle.sections.proofs.cover.join.Given as goal

-- the cover so far, and the result of joining the last window and those that remain
abbrev pub invariant-loop-window : goal.invariant-loop-window
invariant-loop-window l = map window l.cover.items ++ joined_from (window l.last) (map window (drop l.window-index l.rest))
    ≡ joined_from (window l.fn.first) (map window l.rest)
