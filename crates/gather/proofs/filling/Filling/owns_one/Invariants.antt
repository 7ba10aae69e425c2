use Rattle.std.proofs.Common.{◌≡◌, false, map, take}
use Rattle.sections.specs.Translation.{window}
use Rattle.task_run.specs.Places.{meets}
use Rattle.gather.specs.Stages.{part}
use Rattle.gather.proofs.filling.Filling.owns_one.Given as goal

-- none of the places of the windows so far is owned
abbrev pub invariant-loop-window : goal.invariant-loop-window
invariant-loop-window l = meets (part l.self).owned (map window (take l.window-index l.windows)) ≡ false
