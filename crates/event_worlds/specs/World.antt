-- A world: its live tasks and its scopes, and the weight of each task in each scope.
use Rattle.std.specs.Prelude.{ℕ, ◌+◌, List, [], ◌∷◌, ◌++◌, Bool, true, false, ◌&&◌, not, nat_eq}
use Rattle.std.specs.Prelude.{Option, Some, None, if◌then◌else◌}
use Rattle.std.specs.Cmp.Lexicographic.{pointwise}
pub use Rattle.events.specs.Events.{ScopeId}
use Rattle.task_run.specs.Results.{TaskResult, and_then}
use Rattle.task_run.specs.OwnRun.{Start}

-- the location of a task; a parked one is at the end of one of its own finishes
pub data Whereabouts : Type 0 where
  Queue : (worker : ℕ) → Whereabouts
  Hand : (worker : ℕ) → Whereabouts
  Parked : Whereabouts

-- a scope that a task is in, and the task's weight there
pub record Stake : Type 0 where
  pub scope : ScopeId
  pub weight : ℕ

-- a task that has started and hasn't ended
pub record Live : Type 0 where
  pub path : List ℕ
  pub start : Start
  -- the results that it has continued with, one list for each finish
  pub receipts : List (List TaskResult)
  -- the number of actions of its own run that it has done, and the numbers of those that spawned a
  -- task or started a finish
  pub done : ℕ
  pub spawned : ℕ
  pub opened : ℕ
  -- the innermost first, and last the one in which it was spawned
  pub stakes : List Stake
  pub place : Whereabouts

-- a finish's scope: the weight that it has issued, the weight that came back, and the results
pub record Scope : Type 0 where
  pub id : ScopeId
  pub issued : ℕ
  pub returned : ℕ
  pub results : List TaskResult
  pub passed : Bool

pub record World : Type 0 where
  pub live : List Live
  pub scopes : List Scope

-- ---- names
-- whether two paths are the same
abbrev pub same_path : List ℕ → List ℕ → Bool
same_path = pointwise nat_eq

-- whether two scopes are the same
abbrev pub same_scope : ScopeId → ScopeId → Bool
same_scope a b = same_path a.owner b.owner && nat_eq a.number b.number

-- the scope of the finish around `main`
abbrev pub root_scope : ScopeId
root_scope = record { owner = []; number = 0 }

-- the path of a task's child with this number
abbrev pub child_path : List ℕ → (number : ℕ) → List ℕ
child_path path k = path ++ k ∷ []

-- ---- looking up
-- the live task with a path
abbrev pub task : List ℕ → List Live → Option Live
task path [] = None
task path (t ∷ ts) = if same_path t.path path then Some t else task path ts

-- replaces the task with the same path
abbrev pub put_task : Live → List Live → List Live
put_task to [] = []
put_task to (t ∷ ts) = if same_path t.path to.path then to ∷ ts else t ∷ put_task to ts

-- all except the task with a path
abbrev pub without_task : List ℕ → List Live → List Live
without_task path [] = []
without_task path (t ∷ ts) = if same_path t.path path then ts else t ∷ without_task path ts

-- the scope with a name
abbrev pub scope : ScopeId → List Scope → Option Scope
scope id [] = None
scope id (s ∷ ss) = if same_scope s.id id then Some s else scope id ss

-- replaces the scope with the same name
abbrev pub put_scope : Scope → List Scope → List Scope
put_scope to [] = []
put_scope to (s ∷ ss) = if same_scope s.id to.id then to ∷ ss else s ∷ put_scope to ss

-- ---- locations
-- whether it is in this worker's queue
abbrev pub in_queue : Whereabouts → ℕ → Bool
in_queue (Queue v) w = nat_eq v w
in_queue (Hand v) w = false
in_queue Parked w = false

-- whether it is in this worker's hand
abbrev pub in_hand : Whereabouts → ℕ → Bool
in_hand (Hand v) w = nat_eq v w
in_hand (Queue v) w = false
in_hand Parked w = false

-- whether it is parked
abbrev pub is_parked : Whereabouts → Bool
is_parked Parked = true
is_parked (Queue v) = false
is_parked (Hand v) = false

-- the worker whose hand it is in
abbrev pub hand_of : Whereabouts → Option ℕ
hand_of (Hand v) = Some v
hand_of (Queue v) = None
hand_of Parked = None

-- whether a worker has no task in its hand
abbrev pub hand_is_free : ℕ → List Live → Bool
hand_is_free w [] = true
hand_is_free w (t ∷ ts) = not (in_hand t.place w) && hand_is_free w ts

-- ---- weights
-- the sum of the stakes in one scope
abbrev pub weight_in : ScopeId → List Stake → ℕ
weight_in id [] = 0
weight_in id (s ∷ ss) = (if same_scope s.scope id then s.weight else 0) + weight_in id ss

-- the weights of all live tasks that are in a scope
abbrev pub held : ScopeId → List Live → ℕ
held id [] = 0
held id (t ∷ ts) = weight_in id t.stakes + held id ts

-- the weight in the first of some scopes
abbrev pub first_weight : List Stake → Option ℕ
first_weight [] = None
first_weight (s ∷ outer) = Some s.weight

-- whether a scope exists and has passed
abbrev pub is_passed : Option Scope → Bool
is_passed None = false
is_passed (Some s) = s.passed

-- the weight that a scope has issued, and the weight that came back
abbrev pub book : ScopeId → World → Option (ℕ × ℕ)
book id world = and_then (scope id world.scopes) (λ s. Some (s.issued, s.returned))

-- whether a scope has passed
abbrev pub has_passed : ScopeId → World → Bool
has_passed id world = is_passed (scope id world.scopes)

-- the weight of a live task in its innermost scope
abbrev pub weight_of : List ℕ → World → Option ℕ
weight_of path world = and_then (task path world.live) (λ t. first_weight t.stakes)
