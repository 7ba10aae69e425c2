-- Runs in Rust of a program on an input: each represents a configuration that a task of the program
-- may reach.
use Rattle.std.specs.Prelude.{◌≡◌, ℤ, List, [], ◌∷◌}
use Rattle.types.specs.Code.{Program}
use Rattle.types.specs.Outcome.{Budget}
use Rattle.types.specs.Run.{State}
use Rattle.types.specs.Translation.{program}
use Rattle.task_run.specs.Frames.{Frame, AtEnd}
use Rattle.task_run.specs.OwnRun.{Own, Start, result_of}
use Rattle.task_run.specs.Reached.{begun}
use Rattle.task_run.specs.Runs.{MayStand}
use Rattle.task_run.specs.RunTurns.{Waits}
use Rattle.task_run.specs.Standings.{Shows, state_of, with_own}
use Rattle.task_run.specs.Translation.{start, task_result}
use Rattle.task_run.specs.declared.result.TaskResult.{TaskResult}
use Rattle.task_run.specs.declared.run.Run.{Run}
use Rattle.task_run.specs.declared.turn.Paused.{Paused}
use Rattle.task_run.specs.declared.turn.Turn.{Turn}
use Rattle.task_run.specs.declared.turn.Turn.TheVariants.{Going, Spawns, EntersFinish, EndsFinish}
use Rattle.task_run.specs.declared.turn.Turn.TheVariants.{Ended, Over}

-- the run represents a task of the program, on this input and under this budget
pub record MayRun (p : Program) (input : List (List ℤ)) (b : Budget) (r : Run) : Type 0 where
  pub program : program r.plan.program.now ≡ p
  pub start : Start
  pub nest : r.thread.nest ≡ start.nest
  pub frames : List (Frame Own)
  pub own : Own
  pub shows : Shows r frames own
  pub stands : MayStand p input b start (record { frames = frames; state = with_own own (state_of r.thread) })

-- a run waits at the end of a finish of a task of the program, with what the task has made so far
pub record MayWait (p : Program) (input : List (List ℤ)) (b : Budget) (q : Paused)
    (so_far : TaskResult) : Type 0 where
  pub program : program q.plan.program.now ≡ p
  pub start : Start
  pub nest : q.nest ≡ start.nest
  pub frames : List (Frame Own)
  pub before : State Own
  pub state : State Own
  pub waits : Waits q frames before state
  pub stands : MayStand p input b start (record { frames = AtEnd before ∷ frames; state = state })
  pub made : task_result so_far ≡ result_of state

module _ (p : Program) (input : List (List ℤ)) (b : Budget) where
  -- a task of the program has this start
  abbrev pub MayStart : Start → Type 0
  MayStart s = MayStand p input b s (begun b.steps s)

  -- a run of the task with this start
  abbrev pub IsRunOf : Start → Run → Type 0
  IsRunOf s r = (m : MayRun p input b r) × (m.start ≡ s)

  -- the task with this start ended with this result
  abbrev pub IsEndOf : Start → TaskResult → Type 0
  IsEndOf s r =
      (st : State Own) × MayStand p input b s (record { frames = []; state = st })
      × (task_result r ≡ result_of st)

  -- a turn of the task with this start returns a value of the same task, and a spawned task is one
  -- of the program
  abbrev pub Stays : Start → Turn → Type 0
  Stays s (Going r) = IsRunOf s r
  Stays s (Spawns r c) = IsRunOf s r × MayStart (start c)
  Stays s (EntersFinish r) = IsRunOf s r
  Stays s (Over r) = IsRunOf s r
  Stays s (EndsFinish q r) = (w : MayWait p input b q r) × (w.start ≡ s)
  Stays s (Ended r) = IsEndOf s r
