-- Copies of runs: a copy represents the same task.
use Rattle.std.specs.Prelude.{◌≡◌, List}
use Rattle.types.specs.Run.{State}
use Rattle.task_run.specs.Frames.{Frame}
use Rattle.task_run.specs.OwnRun.{Own}
use Rattle.task_run.specs.RunTurns.{Waits}
use Rattle.task_run.specs.Standings.{Shows, state_of}
use Rattle.task_run.specs.declared.run.Run.{Run}
use Rattle.task_run.specs.declared.turn.Paused.{Paused}

-- the copy is in the same state as the other run, and represents every task that the other one
-- represents
pub record IsCopy (old new : Run) : Type 0 where
  pub plan : new.plan ≡ old.plan
  pub nest : new.thread.nest ≡ old.thread.nest
  pub state : state_of new.thread ≡ state_of old.thread
  pub shows : (fs : List (Frame Own)) (x : Own) → Shows old fs x → Shows new fs x

-- the copy waits where the other run waits
pub record IsPausedCopy (old new : Paused) : Type 0 where
  pub plan : new.plan ≡ old.plan
  pub nest : new.nest ≡ old.nest
  pub waits : (fs : List (Frame Own)) (before st : State Own) → Waits old fs before st
      → Waits new fs before st
