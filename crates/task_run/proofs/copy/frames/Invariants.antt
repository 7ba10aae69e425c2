use Rattle.std.proofs.Common.{List, take}
use Rattle.task_run.specs.Frames.{Frame}
use Rattle.task_run.specs.OwnRun.{Own}
use Rattle.task_run.specs.Standings.{Stacked}
use Rattle.task_run.proofs.copy.frames.Given as goal

-- the copies so far represent each task that the frames so far represent
abbrev pub invariant-loop-frame : goal.invariant-loop-frame
invariant-loop-frame l = (fs : List (Frame Own)) → Stacked (take l.frame-index l.frames) fs → Stacked l.copies.items fs
