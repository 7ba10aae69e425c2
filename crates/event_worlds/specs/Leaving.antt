-- How a task leaves a finish whose scope has passed.
use Rattle.std.specs.Prelude.{ℕ, ◌≡◌, map, None, Some, Vec}
use Rattle.std.specs.Global.{Global}
use Rattle.types.specs.declared.path.Path.{Path}
use Rattle.task_run.specs.Translation.{task_result}
use Rattle.task_run.specs.declared.result.TaskResult.{TaskResult as Made}
use Rattle.event_worlds.specs.Ending.{IsBehind, ScopeBecomes, StandsAt, TaskBecomes}
use Rattle.event_worlds.specs.declared.world.World.{World as rWorld}

-- it continues after the finish, with the results that its innermost scope kept
pub record HasLeft (old new : rWorld) (path : Path) (worker : ℕ) (a : StandsAt old path) : Type 0 where
  pub results : Vec Made Global
  pub kept : a.book.results ≡ Some results
  pub task : TaskBecomes old new path (IsBehind worker (map task_result results.items) a.its)
  pub scope : ScopeBecomes old new a.inner.scope (λ to. to ≡ record a.book { results = None })
