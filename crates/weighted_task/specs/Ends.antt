-- Tasks at the ends of finishes, and how they continue.
use Rattle.std.specs.Prelude.{ℕ, ◌≡◌, ◌+◌, ◌≤◌, length, List, [], ◌∷◌, ◌++◌, Some}
use Rattle.sections.specs.Place.{Place}
use Rattle.types.specs.Run.{State}
use Rattle.task_run.specs.Frames.{Frame, handed}
use Rattle.task_run.specs.Lists.{Each}
use Rattle.task_run.specs.MayRun.{MayWait}
use Rattle.task_run.specs.OwnRun.{Own, result_of}
use Rattle.task_run.specs.Results.{TaskResult}
use Rattle.task_run.specs.Runs.{root, MayStand, IsMadeByTask}
use Rattle.task_run.specs.RunTurns.{ComesBack, Waits}
use Rattle.task_run.specs.Settling.{settle}
use Rattle.task_run.specs.Standings.{IsAt}
use Rattle.task_run.specs.Translation.{owned_by, settled, task_result}
use Rattle.task_run.specs.declared.result.Settled.{Settled}
use Rattle.task_run.specs.declared.result.TaskResult.{TaskResult as Made}
use Rattle.task_run.specs.declared.run.Run.{Run}
use Rattle.task_run.specs.declared.turn.Paused.{Paused}
use Rattle.gather.specs.GivesBack.{all_owned}
use Rattle.task_run.specs.Jobs.{program_of, lists_of, budget_of, IsJob}
use Rattle.task_run.specs.declared.job.Job.{Job}
use Rattle.weighted_task.specs.Finishes.{open_finishes}
use Rattle.weighted_task.specs.declared.finish.Owner.{Owner}
use Rattle.weighted_task.specs.declared.finish.Owner.TheVariants.{Main, Finish}
use Rattle.weighted_task.specs.declared.finish.Parked.{Parked}
use Rattle.weighted_task.specs.declared.finish.Waiting.{Waiting}
use Rattle.weighted_task.specs.declared.stake.Stake.{Stake}
use Rattle.weighted_task.specs.declared.task.Task.{Task}

-- the root is at the end of `main`, with its result
pub record EndsMain (j : Job) (made : Made) : Type 0 where
  pub state : State Own
  pub stands : MayStand (program_of j) (lists_of j) (budget_of j)
      (root (program_of j) (lists_of j) (budget_of j)) (record { frames = []; state = state })
  pub is : task_result made ≡ result_of state

-- a task of the job is at the end of a finish, with the result of what it has done since that started; it
-- holds a weight in the scope that it was started in, and in each surrounding open finish
pub record EndsFinish (j : Job) (q : Paused) (made : Made) (outer : List Stake)
    (count : ℕ) : Type 0 where
  pub may : MayWait (program_of j) (lists_of j) (budget_of j) q made
  pub budget : q.plan.budget ≡ j.budget
  pub scopes : length outer ≡ open_finishes q.frames.items + 1
  pub opened : count + q.steps ≤ j.budget.steps

-- either of the two
abbrev pub EndsSo : Job → Owner → Made → List Stake → (count : ℕ) → Type 0
EndsSo j Main made outer count = EndsMain j made
EndsSo j (Finish q) made outer count = EndsFinish j q made outer count

abbrev pub IsAtEnd : Job → Owner → Made → List Stake → (count : ℕ) → Type 0
IsAtEnd j o made outer count = IsJob j × EndsSo j o made outer count

-- a task that is parked at the end of a finish, or of `main`, is of its job
abbrev pub IsParked : Parked → Type 0
IsParked p = IsAtEnd p.job p.owner p.made p.outer.items p.opened

-- a task waits at the end of a finish
abbrev pub IsAtFinish : Waiting → Type 0
IsAtFinish w = (q : Paused) × (w.owner ≡ Finish q)

-- the root waits at the end of `main`
abbrev pub IsAtMain : Waiting → Type 0
IsAtMain w = w.owner ≡ Main

-- its own result settled to this, with results of tasks of its job
pub record Comes (w : Waiting) (s : Settled) : Type 0 where
  pub made : Made
  pub waits : IsAtEnd w.job w.owner made w.outer.items w.opened
  pub results : List TaskResult
  pub tasks : Each (IsMadeByTask (program_of w.job) (lists_of w.job) (budget_of w.job)) results
  pub settles : Some (settled s) ≡ settle (task_result made) results
  pub owned : (q : Place) → owned_by s.holdings q ≡ all_owned (task_result made) q

-- a task continues after the finish, in the surrounding scope, with its weight there
pub record GoesBehind (w : Waiting) (s : Settled) (t : Task) : Type 0 where
  pub paused : Paused
  pub run : Run
  pub was : w.owner ≡ Finish paused
  pub is : t.body.value.run ≡ Some run
  pub stands : (fs : List (Frame Own)) (before st : State Own)
      → Waits paused fs before st → ComesBack s st
      → IsAt run (record { frames = fs; state = handed before (settled s) st })
  pub plan : run.plan ≡ paused.plan
  pub nest : run.thread.nest ≡ paused.nest
  pub job : t.body.value.job ≡ w.job
  pub opened : t.body.value.opened ≡ w.opened
  pub scopes : w.outer.items
      ≡ t.body.value.outer.items ++ record { scope = t.body.value.scope; share = t.share } ∷ []
