-- The effect in Rust of the events of a task in a hand.
use Rattle.std.specs.Prelude.{ℕ, ◌+◌, ◌*◌, ◌-◌, ◌/◌, ◌≡◌, ◌≤◌, ◌<◌, List, [], ◌∷◌, map, Some}
use Rattle.std.specs.Prelude.{if◌then◌else◌, Bool, true, false}
use Rattle.std.specs.HashMap.{get}
use Rattle.types.specs.declared.path.Path.{Path}
use Rattle.task_run.specs.declared.run.Run.{Run}
use Rattle.task_run.specs.declared.start.Start.{Start}
use Rattle.task_run.specs.declared.job.Job.{Job}
use Rattle.event_worlds.specs.Courses.{IsKnown, IsLooked}
use Rattle.event_worlds.specs.Events.{issue, Steps as IsStep}
use Rattle.event_worlds.specs.World.{Stake, hand_of, Scope as Book}
use Rattle.types.specs.Translation.{is_path}
use Rattle.event_worlds.specs.Shown.{Becomes, IsBookOf, WorldStays, is_scope, scope_id, stake, whereabouts}
use Rattle.event_worlds.specs.declared.doing.TaskProgress.TheVariants.{Starts, Runs, Steps, Spawns, Opens}
use Rattle.types.specs.declared.scope_id.ScopeId.{ScopeId}
use Rattle.event_worlds.specs.declared.scope.WorldScope.{WorldScope}
use Rattle.event_worlds.specs.declared.task.WorldStake.{WorldStake as rStake}
use Rattle.event_worlds.specs.declared.task.WorldTask.{WorldTask}
use Rattle.event_worlds.specs.declared.task.Whereabouts.TheVariants.{Queue}
use Rattle.event_worlds.specs.declared.world.World.{World}

-- a task of this path is in this worker's hand, and its next action is known
pub record IsReady (r : World) (path : Path) (worker : ℕ) : Type 0 where
  pub task : WorldTask
  pub at : get is_path r.tasks path ≡ Some task
  pub hand : hand_of (whereabouts task.place) ≡ Some worker
  pub known : IsKnown task.doing

-- the same task, with its stakes possibly elsewhere in memory
pub record IsSame (old new : WorldTask) : Type 0 where
  pub doing : new.doing ≡ old.doing
  pub opened : new.opened ≡ old.opened
  pub place : new.place ≡ old.place
  pub stakes : new.stakes.items ≡ old.stakes.items

-- it took a step
pub record DidStep (old new : WorldTask) : Type 0 where
  pub run : Run
  pub was : old.doing ≡ Steps run
  pub now : new ≡ record old { doing = Runs run }

-- in a hand it took its next step, which was known before or not
pub record TookStep (j : Job) (old new : WorldTask) : Type 0 where
  pub worker : ℕ
  pub hand : hand_of (whereabouts old.place) ≡ Some worker
  pub run : Run
  pub looked : IsLooked j old.doing (Steps run)
  pub now : new ≡ record old { doing = Runs run }

-- it did so, or it is unchanged
abbrev pub TookStepIf : Bool → Job → (old new : WorldTask) → Type 0
TookStepIf true j old new = TookStep j old new
TookStepIf false j old new = new ≡ old

-- the task with this path took a step, or the tables are unchanged
abbrev pub SteppedIf : Bool → (path : List ℕ) → (old new : World) → Type 0
SteppedIf true path old new = Becomes (IsStep path) old new
SteppedIf false path old new = WorldStays old new

-- it is about to spawn a task
pub record IsToSpawn (k : WorldTask) : Type 0 where
  pub run : Run
  pub start : Start
  pub is : k.doing ≡ Spawns run start

-- it is about to spawn a task, and has weight 1 in its innermost scope, which is `id`
pub record IsWanting (k : WorldTask) (id : ScopeId) : Type 0 where
  pub spawns : IsToSpawn k
  pub inner : rStake
  pub outer : List rStake
  pub stakes : k.stakes.items ≡ inner ∷ outer
  pub one : inner.weight ≡ 1
  pub named : inner.scope ≡ id

-- it is about to spawn a task and has weight 1, and its innermost scope may issue w0 more
pub record IsShort (r : World) (path : Path) : Type 0 where
  pub task : WorldTask
  pub at : get is_path r.tasks path ≡ Some task
  pub id : ScopeId
  pub wants : IsWanting task id
  pub book : WorldScope
  pub found : get is_scope r.scopes id ≡ Some book
  pub few : book.issued < 2147483648 * r.job.w0

-- its innermost scope issued w0 more, and the task has this weight
pub record DidIssue (old new : World) (path : Path) (s : IsShort old path) : Type 0 where
  pub task : WorldTask
  pub doing : task.doing ≡ s.task.doing
  pub opened : task.opened ≡ s.task.opened
  pub place : task.place ≡ s.task.place
  pub stakes : task.stakes.items ≡ record s.wants.inner { weight = 1 + old.job.w0 } ∷ s.wants.outer
  pub tasks : (q : Path) → get is_path new.tasks q
      ≡ (if is_path path q then Some task else get is_path old.tasks q)
  pub book : WorldScope
  pub issued : (b : Book) → IsBookOf s.book b → IsBookOf book (issue old.job.w0 b)
  pub scopes : (q : ScopeId) → get is_scope new.scopes q
      ≡ (if is_scope s.id q then Some book else get is_scope old.scopes q)

-- it spawns a task, which gets half of its weight, rounded down, and is in this worker's queue
pub record DidSpawn (old new child : WorldTask) (path : Path) (worker : ℕ) : Type 0 where
  pub run : Run
  pub start : Start
  pub was : old.doing ≡ Spawns run start
  pub now : new.doing ≡ Runs run
  pub opened : new.opened ≡ old.opened
  pub place : new.place ≡ old.place
  pub inner : Stake
  pub outer : List Stake
  pub stakes : map stake old.stakes.items ≡ inner ∷ outer
  pub two : 2 ≤ inner.weight
  pub kept : map stake new.stakes.items
      ≡ record inner { weight = inner.weight - inner.weight / 2 } ∷ outer
  pub named : path.turns.items ≡ start.path.turns.items
  pub begins : child.doing ≡ Starts start
  pub opened_none : child.opened ≡ 0
  pub given : map stake child.stakes.items ≡ record inner { weight = inner.weight / 2 } ∷ []
  pub queued : child.place ≡ Queue worker

-- the path of a child, and half of its parent's weight, rounded down
pub record IsShare (k : WorldTask) (path : Path) (stakes : List rStake) : Type 0 where
  pub spawns : IsToSpawn k
  pub inner : rStake
  pub outer : List rStake
  pub are : k.stakes.items ≡ inner ∷ outer
  pub two : 2 ≤ inner.weight
  pub named : path.turns.items ≡ spawns.start.path.turns.items
  pub given : map stake stakes ≡ record (stake inner) { weight = inner.weight / 2 } ∷ []

-- it has at least weight 2 in its innermost scope
pub record IsHeavy (k : WorldTask) : Type 0 where
  pub inner : rStake
  pub outer : List rStake
  pub stakes : k.stakes.items ≡ inner ∷ outer
  pub two : 2 ≤ inner.weight

-- it started a finish, in whose scope it has the weight w0
pub record DidOpen (old new : WorldTask) (path : Path) (id : ScopeId) (w0 : ℕ) : Type 0 where
  pub run : Run
  pub was : old.doing ≡ Opens run
  pub now : new.doing ≡ Runs run
  pub opened : new.opened ≡ old.opened + 1
  pub place : new.place ≡ old.place
  pub owner : id.owner.turns.items ≡ path.turns.items
  pub number : id.number ≡ old.opened + 1
  pub stakes : map stake new.stakes.items
      ≡ record { scope = scope_id id; weight = w0 } ∷ map stake old.stakes.items
