-- The world that a world in Rust represents: live tasks by their paths, scopes by their names.
use Rattle.std.specs.Prelude.{ℕ, ◌≡◌, ◌⊎◌, List, Bool, true, false, ◌&&◌, option_map}
use Rattle.std.specs.Prelude.{not, nat_eq, map, Option, Some, None, Vec, codes, if◌then◌else◌}
use Rattle.std.specs.Global.{Global}
use Rattle.std.specs.HashMap.{get}
use Rattle.std.specs.HashSet.{contains}
use Rattle.types.specs.Outcome.{outcome as one_thread}
use Rattle.types.specs.Translation.{outcome as outcome_of, is_path}
use Rattle.types.specs.declared.outcome.Outcome.{Outcome}
use Rattle.types.specs.declared.path.Path.{Path}
pub use Rattle.events.specs.Events.{scope_id, turns_of}
use Rattle.task_run.specs.Translation.{task_result}
use Rattle.task_run.specs.declared.result.TaskResult.{TaskResult}
use Rattle.task_run.specs.Jobs.{program_of, lists_of, budget_of}
use Rattle.task_run.specs.declared.job.Job.{Job}
use Rattle.event_worlds.specs.Courses.{Course, course_of, further, IsAtAnEnd, IsDoing, IsLooked}
use Rattle.event_worlds.specs.Events.{Event}
use Rattle.event_worlds.specs.Gathered.{faults_of}
use Rattle.event_worlds.specs.Jobs.{IsWeightedJob}
use Rattle.event_worlds.specs.World.{Stake, Live, Scope, World, Whereabouts, Queue, Hand, Parked, task, scope}
use Rattle.event_worlds.specs.World.{hand_is_free, has_passed, root_scope}
use Rattle.event_worlds.specs.Worlds.{LeadsTo, event_of}
use Rattle.event_worlds.specs.declared.doing.TaskProgress.{TaskProgress}
use Rattle.event_worlds.specs.declared.error.EventError.{EventError}
use Rattle.event_worlds.specs.declared.error.EventError.TheVariants.{Illegal, NoMemory}
use Rattle.types.specs.declared.scope_id.ScopeId.{ScopeId as rScopeId}
use Rattle.event_worlds.specs.declared.job.WeightedJob.{WeightedJob}
use Rattle.event_worlds.specs.declared.scope.WorldScope.{WorldScope as rScope}
use Rattle.event_worlds.specs.declared.task.WorldStake.{WorldStake as rStake}
use Rattle.event_worlds.specs.declared.task.WorldTask.{WorldTask as rTask}
use Rattle.event_worlds.specs.declared.task.Whereabouts.{Whereabouts as rWhereabouts}
use Rattle.event_worlds.specs.declared.task.Whereabouts.TheVariants.{Queue as rQueue, Hand as rHand}
use Rattle.event_worlds.specs.declared.task.Whereabouts.TheVariants.{Parked as rParked}
use Rattle.event_worlds.specs.declared.world.World.{World as rWorld}

-- ---- names and locations
abbrev pub stake : rStake → Stake
stake s = record { scope = scope_id s.scope; weight = s.weight }

abbrev pub whereabouts : rWhereabouts → Whereabouts
whereabouts (rQueue w) = Queue w
whereabouts (rHand w) = Hand w
whereabouts rParked = Parked

abbrev pub is_scope : (id other : rScopeId) → Bool
is_scope id other = is_path id.owner other.owner && nat_eq id.number other.number

-- both are there and belong together, or neither is there
abbrev pub AreBoth : {A B : Type 0} → (A → B → Type 0) → Option A → Option B → Type 0
AreBoth Are None None = Unit {0}
AreBoth Are (Some a) (Some b) = Are a b
AreBoth Are None (Some b) = ⊥
AreBoth Are (Some a) None = ⊥

-- ---- scopes
-- the results that a scope keeps; they are handed to the owner only once it has passed
abbrev pub AreResultsOf : Option (Vec TaskResult Global) → Scope → Type 0
AreResultsOf None book = book.passed ≡ true
AreResultsOf (Some rs) book = map task_result rs.items ≡ book.results

-- a scope's numbers, its results until its owner has them, and the number of faults in them
pub record IsBookOf (s : rScope) (book : Scope) : Type 0 where
  pub issued : s.issued ≡ book.issued
  pub returned : s.returned ≡ book.returned
  pub passed : s.passed ≡ book.passed
  pub results : AreResultsOf s.results book
  pub faults : s.faults ≡ faults_of book.results

-- the same scope, with its results possibly elsewhere in memory
pub record ScopeStays (old new : rScope) : Type 0 where
  pub issued : new.issued ≡ old.issued
  pub returned : new.returned ≡ old.returned
  pub passed : new.passed ≡ old.passed
  pub results : option_map (λ v. v.items) new.results ≡ option_map (λ v. v.items) old.results
  pub faults : new.faults ≡ old.faults

module _ (j : Job) where
  -- ---- tasks
  -- the last action of a parked task was the end of a finish, or its own end
  pub record IsParked (c : Course) (doing : TaskProgress) : Type 0 where
    pub before : Course
    pub last : further before ≡ c
    pub at : IsDoing j before doing
    pub waits : IsAtAnEnd doing

  -- its next action; or, if it is parked, its last one
  abbrev pub IsDoingThere : Whereabouts → Course → TaskProgress → Type 0
  IsDoingThere Parked c doing = IsParked c doing
  IsDoingThere (Queue w) c doing = IsDoing j c doing
  IsDoingThere (Hand w) c doing = IsDoing j c doing

  pub record IsTaskOf (k : rTask) (t : Live) : Type 0 where
    pub place : whereabouts k.place ≡ t.place
    pub stakes : map stake k.stakes.items ≡ t.stakes
    pub opened : k.opened ≡ t.opened
    pub doing : IsDoingThere t.place (course_of t) k.doing

  -- the same task, with its stakes possibly elsewhere in memory; its next action may be known by
  -- now
  pub record TaskStays (old new : rTask) : Type 0 where
    pub doing : (new.doing ≡ old.doing) ⊎ IsLooked j old.doing new.doing
    pub opened : new.opened ≡ old.opened
    pub place : new.place ≡ old.place
    pub stakes : new.stakes.items ≡ old.stakes.items

  -- ---- the outcome
  -- None before the root's scope has passed, and then the one-thread outcome
  abbrev pub IsTold : (passed : Bool) → Option Outcome → Type 0
  IsTold passed None = passed ≡ false
  IsTold passed (Some told) =
      (passed ≡ true) × (outcome_of told ≡ one_thread (program_of j) (lists_of j) (budget_of j))

-- ---- tables
-- the task with this path is `to`, and the others are unchanged
abbrev pub PutsTask : (old new : rWorld) → Path → rTask → Type 0
PutsTask old new path to =
    (q : Path) → get is_path new.tasks q ≡ (if is_path path q then Some to else get is_path old.tasks q)

-- the scope with this name is `to`, and the others are unchanged
abbrev pub PutsScope : (old new : rWorld) → rScopeId → rScope → Type 0
PutsScope old new id to =
    (q : rScopeId)
    → get is_scope new.scopes q ≡ (if is_scope id q then Some to else get is_scope old.scopes q)

-- ---- worlds
-- each live task has a path that can be looked up in a table
abbrev pub ArePaths : List Live → Type 0
ArePaths ts = (q : List ℕ) (t : Live) → task q ts ≡ Some t → (path : Path) × (path.turns.items ≡ q)

-- the tables represent a world, and events led to this world
pub record Shows (r : rWorld) (w : World) : Type 0 where
  pub events : List Event
  pub led : LeadsTo (program_of r.job.job) r.job.w0 (lists_of r.job.job) (budget_of r.job.job) events w
  pub tasks : (path : Path)
      → AreBoth (IsTaskOf r.job.job) (get is_path r.tasks path) (task path.turns.items w.live)
  pub paths : ArePaths w.live
  pub scopes : (id : rScopeId)
      → AreBoth IsBookOf (get is_scope r.scopes id) (scope (scope_id id) w.scopes)
  pub hands : (worker : ℕ) → contains nat_eq r.hands worker ≡ not (hand_is_free worker w.live)
  pub told : IsTold r.job.job (has_passed root_scope w) r.told

-- the world after an event of a job, if it is legal
abbrev pub next_world : WeightedJob → Event → World → Option World
next_world j e w = event_of (program_of j.job) j.w0 (budget_of j.job) e w

-- for each world that was represented, the event was legal there, and the world after it is
-- represented
abbrev pub Becomes : Event → (old new : rWorld) → Type 0
Becomes e old new = (w : World) → Shows old w
    → (to : World) × (next_world old.job e w ≡ Some to) × Shows new to

-- in each world that is represented, the event is legal
abbrev pub IsLegal : rWorld → Event → Type 0
IsLegal r e = (w : World) → Shows r w → (to : World) × (next_world r.job e w ≡ Some to)

-- the same tables, possibly elsewhere in memory
pub record WorldStays (old new : rWorld) : Type 0 where
  pub job : new.job ≡ old.job
  pub tasks : (path : Path)
      → AreBoth (TaskStays old.job.job) (get is_path old.tasks path) (get is_path new.tasks path)
  pub scopes : (id : rScopeId)
      → AreBoth ScopeStays (get is_scope old.scopes id) (get is_scope new.scopes id)
  pub hands : (worker : ℕ) → contains nat_eq new.hands worker ≡ contains nat_eq old.hands worker
  pub told : new.told ≡ old.told

-- an error leaves the tables unchanged; if it is `Illegal`, the event wasn't legal in any world
-- that was represented
abbrev pub Refuses : Event → (old new : rWorld) → EventError → Type 0
Refuses e old new Illegal =
    WorldStays old new × ((w : World) → Shows old w → next_world old.job e w ≡ None)
Refuses e old new NoMemory = WorldStays old new

-- the printed text of an error
abbrev pub event_error_text : EventError → List ℕ
event_error_text Illegal = codes "I1"
event_error_text NoMemory = codes "I2"

-- a right job, and tables that represent a world
pub record IsWorld (r : rWorld) : Type 0 where
  pub job : IsWeightedJob r.job
  pub world : World
  pub shows : Shows r world
