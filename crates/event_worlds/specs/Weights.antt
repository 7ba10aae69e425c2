-- The tasks in a scope, and their weights there.
use Rattle.std.specs.Prelude.{ℕ, ◌≡◌, ◌≤◌, List, drop, Some, Contains, if◌then◌else◌}
use Rattle.task_run.specs.Results.{TaskResult}
use Rattle.task_run.specs.Lists.{Each}
use Rattle.task_run.specs.OwnRun.{Start, Action}
use Rattle.event_worlds.specs.World.{ScopeId, Stake, Live, World, task, is_parked}
use Rattle.event_worlds.specs.Events.{Event, first_world, after}

-- the behavior of tasks: their actions, by the start and the receipts
abbrev pub Does : Type 0
Does = Start → List (List TaskResult) → List Action

-- the results of tasks at their ends
abbrev pub HandsOn : Type 0
HandsOn = Start → List (List TaskResult) → TaskResult

-- a list of events is legal from the start for such tasks, and leads to a world
abbrev pub Leads : (w0 : ℕ) → Does → HandsOn → (root : Start) → List Event → World → Type 0
Leads w0 does hands_on root es w = after w0 does hands_on es (first_world w0 root) ≡ Some w

-- the scopes in which a task has weight; a parked task has given back its weight in the innermost
abbrev pub standing : Live → List Stake
standing t = if is_parked t.place then drop 1 t.stakes else t.stakes

-- it has at least weight 1 in each
abbrev pub Weighs : Live → Type 0
Weighs t = Each (λ (s : Stake). 1 ≤ s.weight) (standing t)

-- a live task is in a scope
pub record StandsIn (live : List Live) (id : ScopeId) : Type 0 where
  pub path : List ℕ
  pub its : Live
  pub lives : task path live ≡ Some its
  pub stake : Stake
  pub among : Contains (standing its) stake
  pub there : stake.scope ≡ id
