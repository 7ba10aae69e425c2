-- Facts about every world that a replay leads to.
use Rattle.std.specs.Prelude.{ℕ, ◌≡◌, ◌≤◌, ◌⊎◌, ◌↔◌, List, ◌∷◌, ℤ, true, false, Some, None, Contains}
use Rattle.types.specs.Code.{Codes, Program}
use Rattle.types.specs.Outcome.{Budget}
use Rattle.effects.specs.Needs.{Needs}
use Rattle.task_run.specs.Results.{TaskResult}
use Rattle.task_run.specs.Lists.{Each}
use Rattle.task_run.specs.Settling.{NoTwice}
use Rattle.task_run.specs.OwnRun.{EndFinish, EndTask, is_waiting, run_by}
use Rattle.task_run.specs.Given.{below, given, IsOfOwnRun, root_of}
use Rattle.task_run.specs.Worth.{measured}
use Rattle.event_worlds.specs.Candidates.{candidates}
use Rattle.event_worlds.specs.World.{ScopeId, Stake, Live, Scope, World, is_parked, hand_of, root_scope, task, scope}
use Rattle.event_worlds.specs.Events.{Event, Ends, owns, next_action, after}
use Rattle.event_worlds.specs.History.{Begun, BegunIn, Ended}
use Rattle.event_worlds.specs.Replay.{does, hands_on, event, Legal, IllegalAt, start_of, replay}
use Rattle.event_worlds.specs.Worlds.{IsFirstRefused, IsSpentBy}

module _ (p : Program) (needs : Codes → Needs) (fresh w0 : ℕ) (w : World) where
  -- some event of a live task is legal
  pub record IsFree : Type 0 where
    pub first : Event
    pub to : World
    pub legal : event p needs fresh w0 first w ≡ Some to
    pub path : List ℕ
    pub its : Live
    pub lives : task path w.live ≡ Some its
    pub among : Contains (candidates 0 path its.place its.stakes) first

  -- a task needs weight from a scope that has issued 2^31 times
  abbrev pub IsSpent : Type 0
  IsSpent = IsSpentBy (next_action w0 (does p needs fresh w0) (hands_on p needs fresh w0)) w0 w

  -- a task has continued with results that don't settle: its own run still waits
  pub record IsUnsettled : Type 0 where
    pub path : List ℕ
    pub its : Live
    pub lives : task path w.live ≡ Some its
    pub awake : is_parked its.place ≡ false
    pub nothing : next_action w0 (does p needs fresh w0) (hands_on p needs fresh w0) its ≡ None
    pub waits : is_waiting (run_by p needs fresh its.receipts its.start) ≡ true

module _ (p : Program) (needs : Codes → Needs) (w0 : ℕ) where
  -- P is true of each replayed list and of the world that it leads to
  abbrev pub OfAllReplays : ((input : List (List ℤ)) → Budget → List Event → World → Type 0) → Type 0
  OfAllReplays P = 1 ≤ w0 → (input : List (List ℤ)) (b : Budget) (es : List Event) (w : World) → replay p needs w0 input b es ≡ Legal w → P input b es w

  -- a replay is the world after its events, one after the other
  abbrev pub ReplaysAreWorlds : Type 0
  ReplaysAreWorlds = (input : List (List ℤ)) (b : Budget) (es : List Event) (w : World)
      → replay p needs w0 input b es ≡ Legal w → after w0 (does p needs b.steps w0) (hands_on p needs b.steps w0) es (start_of p w0 input b) ≡ Some w

  -- all tasks spawned in a passed scope have ended
  abbrev pub PassedHasEnded : Type 0
  PassedHasEnded = OfAllReplays (λ input b es w. (id : ScopeId) (s : Scope) (path : List ℕ) → scope id w.scopes ≡ Some s → s.passed ≡ true → Begun es id path → Ended es id path)

  -- a live task started with the start given to its path
  abbrev pub StartsAreGiven : Type 0
  StartsAreGiven = OfAllReplays (λ input b es w. (path : List ℕ) (t : Live) → task path w.live ≡ Some t → given p needs b.steps (root_of p input b.nest) path ≡ Some t.start)

  -- a result that a scope keeps is that of its task's own run, from the start given to its path
  abbrev pub ResultsAreOwn : Type 0
  ResultsAreOwn = OfAllReplays (λ input b es w. (id : ScopeId) (s : Scope) → scope id w.scopes ≡ Some s → Each (IsOfOwnRun p needs b.steps (root_of p input b.nest)) s.results)

  -- a scope keeps at most one result of a task, and only once the task has ended
  abbrev pub ResultsComeOnce : Type 0
  ResultsComeOnce = OfAllReplays (λ input b es w. (id : ScopeId) (s : Scope) → scope id w.scopes ≡ Some s
      → NoTwice s.results × Each (λ (r : TaskResult). (task r.path w.live ≡ None) × Contains es (Ends r.path)) s.results)

  -- a scope keeps only results of tasks spawned directly in it, and keeps the result of each such
  -- task that has ended
  abbrev pub ResultsAreHanded : Type 0
  ResultsAreHanded = OfAllReplays (λ input b es w. (id : ScopeId) (s : Scope) → scope id w.scopes ≡ Some s
      → Each (λ (r : TaskResult). BegunIn es id r.path) s.results
      × ((path : List ℕ) → BegunIn es id path → Contains es (Ends path) → (r : TaskResult) × Contains s.results r × (r.path ≡ path)))

  -- once it has passed, the root's scope holds the results of all tasks below the root, by any
  -- measure
  abbrev pub RootHoldsAll : Type 0
  RootHoldsAll = OfAllReplays (λ input b es w. (s : Scope) → scope root_scope w.scopes ≡ Some s → s.passed ≡ true
      → (f : TaskResult → ℕ) → measured f s.results ≡ measured f (below p needs b.steps b.nest (root_of p input b.nest)))

  -- until the root's scope has passed, the world continues
  abbrev pub GoesOn : Type 0
  GoesOn = OfAllReplays (λ input b es w. (s : Scope) → scope root_scope w.scopes ≡ Some s → s.passed ≡ false
      → IsFree p needs b.steps w0 w ⊎ IsSpent p needs b.steps w0 w ⊎ IsUnsettled p needs b.steps w0 w)

  -- a task in a hand that ends a finish is in one of its own scopes, and a task that ends isn't
  abbrev pub EndsAreOwn : Type 0
  EndsAreOwn = OfAllReplays (λ input b es w. (path : List ℕ) (t : Live) (worker : ℕ) (s : Stake) (outer : List Stake)
      → task path w.live ≡ Some t → hand_of t.place ≡ Some worker → t.stakes ≡ s ∷ outer
      → (next_action w0 (does p needs b.steps w0) (hands_on p needs b.steps w0) t ≡ Some EndFinish → owns t s.scope ≡ true)
      × (next_action w0 (does p needs b.steps w0) (hands_on p needs b.steps w0) t ≡ Some EndTask → owns t s.scope ≡ false))

  -- the events before the n-th are legal, and the n-th isn't
  abbrev pub IsFirstIllegal : (input : List (List ℤ)) → Budget → List Event → ℕ → Type 0
  IsFirstIllegal input b =
      IsFirstRefused (λ before to. replay p needs w0 input b before ≡ Legal to) (event p needs b.steps w0)

  -- a replay rejects the first event that isn't legal
  abbrev pub RefusesTheFirst : Type 0
  RefusesTheFirst = (input : List (List ℤ)) (b : Budget) (es : List Event) (n : ℕ) → (replay p needs w0 input b es ≡ IllegalAt n) ↔ IsFirstIllegal input b es n
