use Rattle.std.proofs.Common.{◌≡◌, take}
use Rattle.std.specs.Prelude.{map}
use Rattle.sections.specs.Translation.{window}
use Rattle.types.specs.Translation.{program}
use Rattle.holdings.specs.Copied.{split_in}
use Rattle.cost.specs.Copied.{length_of}
use Rattle.cost.proofs.splits.split_in.Given as goal

-- the result so far is the result of the first windows
abbrev pub invariant-loop-window : goal.invariant-loop-window
invariant-loop-window l =
    l.all ≡ split_in (length_of (program l.code)) (map window (take l.window-index l.cover))
