-- Invariants of tasks: they are of their job, with a weight in each scope that they belong to.
use Rattle.std.specs.Prelude.{ℕ, ◌≡◌, ◌+◌, ◌≤◌, List, length, [], Some}
use Rattle.types.specs.Code.{Async, Codes, Program}
use Rattle.types.specs.Translation.{codes, program}
use Rattle.effects.specs.Statements.{HasStatement}
use Rattle.task_run.specs.MayRun.{MayRun, MayStart}
use Rattle.task_run.specs.Reached.{begun}
use Rattle.task_run.specs.Runs.{root, IsMadeByTask}
use Rattle.task_run.specs.Standings.{IsAt}
use Rattle.task_run.specs.Translation.{start, task_result}
use Rattle.task_run.specs.declared.result.TaskResult.{TaskResult as Made}
use Rattle.task_run.specs.declared.run.Run.{Run}
use Rattle.task_run.specs.declared.start.Start.{Start}
use Rattle.task_run.specs.Jobs.{program_of, lists_of, budget_of, IsJob}
use Rattle.task_run.specs.declared.job.Job.{Job}
use Rattle.weighted_task.specs.Finishes.{open_finishes}
use Rattle.weighted_task.specs.declared.stake.ScopeMark.{ScopeMark}
use Rattle.weighted_task.specs.declared.stake.Stake.{Stake}
use Rattle.weighted_task.specs.declared.task.Body.{Body}
use Rattle.weighted_task.specs.declared.task.Child.{Child}
use Rattle.weighted_task.specs.declared.task.Task.{Task}

-- a task follows a run of its job; apart from its innermost scope it holds a weight in one more scope for
-- each open finish, and each finish that it started took a step
pub record GoesBy (j : Job) (outer : List Stake) (count : ℕ) (r : Run) : Type 0 where
  pub job : IsJob j
  pub may : MayRun (program_of j) (lists_of j) (budget_of j) r
  pub budget : r.plan.budget ≡ j.budget
  pub scopes : length outer ≡ open_finishes r.frames.items
  pub opened : count + r.thread.steps ≤ j.budget.steps

-- a body between two turns
pub record IsBody (b : Body) : Type 0 where
  pub run : Run
  pub has : b.run ≡ Some run
  pub goes : GoesBy b.job b.outer.items b.opened run

abbrev pub IsTask : Task → Type 0
IsTask t = IsBody t.body.value

-- a start has the label and the body of an async
abbrev pub IsOfAsync : Program → Start → Type 0
IsOfAsync p s = HasStatement p s.label (Async (codes s.body.now))

-- an async of its program has this label and this body
abbrev pub IsAsyncOf : Body → (label : ℕ) → Codes → Type 0
IsAsyncOf b l is = HasStatement (program_of b.job) l (Async is)

-- a spawned task is one of its job
pub record IsChild (c : Child) : Type 0 where
  pub job : IsJob c.job
  pub may : MayStart (program_of c.job) (lists_of c.job) (budget_of c.job) (start c.start.value)
  pub label : IsOfAsync (program_of c.job) c.start.value

-- a task of the job has made this result
abbrev pub IsResultOf : Job → Made → Type 0
IsResultOf j made = IsMadeByTask (program_of j) (lists_of j) (budget_of j) (task_result made)

-- a task before its first turn, in this scope
pub record IsFirst (j : Job) (r : Run) (at : ScopeMark) (b : Body) : Type 0 where
  pub job : b.job ≡ j
  pub run : b.run ≡ Some r
  pub scope : b.scope ≡ at
  pub outer : b.outer.items ≡ []
  pub opened : b.opened ≡ 0

-- a body whose task is at this start, in this scope
pub record StartsAs (j : Job) (s : Start) (at : ScopeMark) (b : Body) : Type 0 where
  pub run : Run
  pub first : IsFirst j run at b
  pub begun : IsAt run (begun j.budget.steps (start s))
  pub nest : run.thread.nest ≡ s.nest
  pub budget : run.plan.budget ≡ j.budget
  pub program : program run.plan.program.now ≡ program_of j

-- the root at its start
pub record IsRootBody (j : Job) (b : Body) : Type 0 where
  pub run : Run
  pub first : IsFirst j run (record { depth = 0; number = 0 }) b
  pub begun : IsAt run (begun j.budget.steps (root (program_of j) (lists_of j) (budget_of j)))
  pub nest : run.thread.nest ≡ j.budget.nest
  pub task : IsBody b

abbrev pub IsRoot : Job → Task → Type 0
IsRoot j t = IsRootBody j t.body.value

-- a child at its start, with its weight
pub record IsBegun (c : Child) (t : Task) : Type 0 where
  pub run : Run
  pub first : IsFirst c.job run c.scope t.body.value
  pub begun : IsAt run (begun c.job.budget.steps (start c.start.value))
  pub nest : run.thread.nest ≡ c.start.value.nest
  pub weight : t.share.weight ≡ c.share.weight
  pub task : IsTask t
