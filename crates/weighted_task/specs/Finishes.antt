-- The finishes that are open in a task.
use Rattle.std.specs.Prelude.{ℕ, List}
use Rattle.task_run.specs.Left.{total}
use Rattle.task_run.specs.declared.frame.TaskFrame.{TaskFrame}
use Rattle.task_run.specs.declared.frame.TaskFrame.TheVariants.{Rest, Again, Turns, EndFinish, OnFault}
use Rattle.task_run.specs.declared.frame.TaskFrame.TheVariants.{EndCall}

-- 1 if a frame is the end of a finish, else 0
abbrev pub ends_finish : TaskFrame → ℕ
ends_finish (Rest b) = 0
ends_finish (Again l t b) = 0
ends_finish (Turns t) = 0
ends_finish (EndFinish outer) = 1
ends_finish (OnFault before faults handler) = 0
ends_finish (EndCall env) = 0

-- the number of such frames
abbrev pub open_finishes : List TaskFrame → ℕ
open_finishes = total ends_finish
