-- The tasks of a program's run on an input and under a budget, with the computed needs.
use Rattle.std.specs.Prelude.{ℤ, List}
use Rattle.types.specs.Code.{Program}
use Rattle.types.specs.Outcome.{Budget}
use Rattle.effects.specs.Rounds.{needs_of}
use Rattle.task_run.specs.Results.{TaskResult, Settled}
use Rattle.task_run.specs.OwnRun.{Start, Own, result_of}
use Rattle.task_run.specs.Given.{own, comes_to, below, root_of}
use Rattle.task_run.specs.InPlace.{IsMade}
use Rattle.task_run.specs.Frames.{Standing}
use Rattle.task_run.specs.Reached.{Reached, IsResult, IsWholeOrEnded, CanSettle, CanEnd}

module _ (p : Program) (input : List (List ℤ)) (b : Budget) where
  -- the root's start
  abbrev pub root : Start
  root = root_of p input b.nest

  -- the result of the root's own run
  abbrev pub root_result : TaskResult
  root_result = result_of (own p (needs_of p) b.steps root)

  -- the settled result of the root
  abbrev pub root_comes_to : Settled
  root_comes_to = comes_to p (needs_of p) b.steps root

  -- the results of all tasks below the root
  abbrev pub all_results : List TaskResult
  all_results = below p (needs_of p) b.steps b.nest root

  -- a result is made from the start of its path's task, by its own run or whole
  abbrev pub IsMadeResult : TaskResult → Type 0
  IsMadeResult = IsMade p (needs_of p) b.steps root

  -- a task with this start can reach this configuration
  abbrev pub MayStand : Start → Standing Own → Type 0
  MayStand = Reached p (needs_of p) b.steps root

  -- the result of a task that has ended
  abbrev pub IsTaskResult : TaskResult → Type 0
  IsTaskResult = IsResult p (needs_of p) b.steps root

  -- the result of a task that has ended on its own, or that ran whole
  abbrev pub IsMadeByTask : TaskResult → Type 0
  IsMadeByTask = IsWholeOrEnded p (needs_of p) b.steps root

  -- results of own runs settle what a task has made so far
  abbrev pub MayGoOn : Standing Own → Type 0
  MayGoOn t = CanSettle p (needs_of p) b.steps root t.state

  -- a task with this start can reach its end
  abbrev pub MayEnd : Start → Type 0
  MayEnd = CanEnd p (needs_of p) b.steps root
