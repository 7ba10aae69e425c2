-- Facts about every world that a list of legal events leads to.
use Rattle.std.specs.Prelude.{ℕ, ◌+◌, ◌≡◌, ◌≤◌, List, true, Some, Contains}
use Rattle.task_run.specs.Results.{TaskResult}
use Rattle.task_run.specs.OwnRun.{Start, Action}
use Rattle.event_worlds.specs.Weights.{Weighs, StandsIn}
use Rattle.event_worlds.specs.World.{ScopeId, Stake, Live, Scope, World, task, scope, held}
use Rattle.event_worlds.specs.Events.{Event, first_world, after}
use Rattle.event_worlds.specs.History.{Begun, Ended}

module _ (w0 : ℕ) (actions : Start → List (List TaskResult) → List Action) (result : Start → List (List TaskResult) → TaskResult) where
  -- P is true of each list of legal events, and of the world that it leads to
  abbrev pub OfAllLists : (List Event → World → Type 0) → Type 0
  OfAllLists P = 1 ≤ w0 → (root : Start) (es : List Event) (w : World) → after w0 actions result es (first_world w0 root) ≡ Some w → P es w

  -- what a scope has issued has come back or is held by live tasks
  abbrev pub WeightsAddUp : Type 0
  WeightsAddUp = OfAllLists (λ es w. (id : ScopeId) (s : Scope) → scope id w.scopes ≡ Some s → s.issued ≡ s.returned + held id w.live)

  -- each live task has weight in each scope that it is in
  abbrev pub TasksWeigh : Type 0
  TasksWeigh = OfAllLists (λ es w. (path : List ℕ) (t : Live) → task path w.live ≡ Some t → Weighs t)

  -- once all weight has come back, no task is in the scope
  abbrev pub NobodyIsLeft : Type 0
  NobodyIsLeft = OfAllLists (λ es w. (id : ScopeId) (s : Scope) → scope id w.scopes ≡ Some s → s.issued ≡ s.returned → StandsIn w.live id → ⊥)

  -- all tasks spawned in a passed scope have ended
  abbrev pub PassedIsEnded : Type 0
  PassedIsEnded = OfAllLists (λ es w. (id : ScopeId) (s : Scope) (path : List ℕ) → scope id w.scopes ≡ Some s → s.passed ≡ true → Begun es id path → Ended es id path)

  -- no weight is more than what is out
  abbrev pub NoneIsLate : Type 0
  NoneIsLate = OfAllLists (λ es w. (path : List ℕ) (t : Live) (k : Stake) (s : Scope)
      → task path w.live ≡ Some t → Contains t.stakes k → scope k.scope w.scopes ≡ Some s → s.returned + k.weight ≤ s.issued)
