-- Legal events together with the world that they lead to: how such a walk continues, and when it
-- can't.
use Rattle.std.specs.Prelude.{ℕ, ◌≡◌, ◌+◌, ◌≤◌, ◌<◌, ◌⊎◌, List, length, Bool, true, false}
use Rattle.std.specs.Prelude.{Some, None, Contains, is_some}
use Rattle.std.specs.HashMap.{get}
use Rattle.types.specs.declared.path.Path.{Path}
use Rattle.task_run.specs.Lists.{Each}
use Rattle.task_run.specs.Jobs.{program_of, budget_of}
use Rattle.event_worlds.specs.Candidates.{candidates}
use Rattle.event_worlds.specs.Events.{Event}
use Rattle.event_worlds.specs.Jobs.{IsWeightedJob}
use Rattle.event_worlds.specs.Replay.{Legal}
use Rattle.event_worlds.specs.Replaying.{IsReplayed, comes}
use Rattle.types.specs.Translation.{is_path}
use Rattle.event_worlds.specs.Shown.{Shows, next_world}
use Rattle.event_worlds.specs.World.{Live, World, has_passed, root_scope, task}
use Rattle.event_worlds.specs.Worlds.{IsSpent}
use Rattle.event_worlds.specs.declared.walk.Walk.{Walk}
use Rattle.event_worlds.specs.declared.world.World.{World as rWorld}

-- its events are legal, and its world is the one that they lead to
pub record IsWalk (w : Walk) : Type 0 where
  pub job : IsWeightedJob w.world.job
  pub replayed : IsReplayed w.world.job w.events.items w.world

-- ---- the walk continues
-- one event was added
pub record HasOneMore (old new : Walk) : Type 0 where
  pub walk : IsWalk new
  pub job : new.world.job ≡ old.world.job
  pub more : length new.events.items ≡ length old.events.items + 1

-- no event was added, and the tables still represent what they represented
pub record IsAsBefore (old new : Walk) : Type 0 where
  pub walk : IsWalk new
  pub job : new.world.job ≡ old.world.job
  pub same : new.events.items ≡ old.events.items
  pub shows : (w : World) → Shows old.world w → Shows new.world w

-- an event was added, or not
abbrev pub Happened : Bool → (old new : Walk) → Type 0
Happened true old new = HasOneMore old new
Happened false old new = IsAsBefore old new

-- some events were added, or none, and there are at most `most`
pub record HasGoneOn (most : ℕ) (old new : Walk) : Type 0 where
  pub walk : IsWalk new
  pub job : new.world.job ≡ old.world.job
  pub grown : length old.events.items ≤ length new.events.items
  pub few : length new.events.items ≤ most

-- ---- the walk can't continue
module _ (r : rWorld) where
  -- in no world that is represented is the event legal
  abbrev pub IsIllegal : Event → Type 0
  IsIllegal e = (w : World) → Shows r w → next_world r.job e w ≡ None

  -- these are the candidates of the task with this path, at any location
  abbrev pub AreCandidates : (worker : ℕ) (path : List ℕ) → List Event → Type 0
  AreCandidates worker path es = (w : World) → Shows r w → (t : Live) → task path w.live ≡ Some t
      → es ≡ candidates worker path t.place t.stakes

  -- none of the candidates of the task with this path is legal
  abbrev pub IsIdle : (worker : ℕ) (path : List ℕ) → Type 0
  IsIdle worker path = (w : World) → Shows r w → (t : Live) → task path w.live ≡ Some t
      → Each (λ e. next_world r.job e w ≡ None) (candidates worker path t.place t.stakes)

  -- all tasks of the table are among these
  abbrev pub AreTasks : (paths : List (List ℕ)) → Type 0
  AreTasks paths = (q : Path) → is_some (get is_path r.tasks q) ≡ true
      → Contains paths q.turns.items

-- the root's scope has passed, or a task needs weight from a scope that has issued 2^31 times
abbrev pub HasStopped : Walk → Type 0
HasStopped walk =
    let j = walk.world.job in
    (w : World) → comes j walk.events.items ≡ Legal w
    → (has_passed root_scope w ≡ true) ⊎ IsSpent (program_of j.job) j.w0 (budget_of j.job) w

-- it has stopped, or has `most` events
abbrev pub IsOver : (most : ℕ) → Walk → Type 0
IsOver most walk = HasStopped walk ⊎ (length walk.events.items ≡ most)

-- a round of picks: some events were added; or none, and the walk has stopped
abbrev pub WentRound : (most : ℕ) → Bool → (old new : Walk) → Type 0
WentRound most true old new =
    HasGoneOn most old new × (length old.events.items < length new.events.items)
WentRound most false old new = HasGoneOn most old new × HasStopped new
