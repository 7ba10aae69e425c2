-- What the events at the ends of finishes and of tasks find in the tables, and how they change
-- them.
use Rattle.std.specs.Prelude.{ℕ, ◌≡◌, ◌+◌, ◌≤◌, List, [], ◌∷◌, Bool, true, false, not, map, drop, Some, Vec}
use Rattle.std.specs.Global.{Global}
use Rattle.std.specs.HashMap.{get}
use Rattle.sections.specs.Place.{Place}
use Rattle.types.specs.Run.{State}
use Rattle.types.specs.declared.path.Path.{Path}
use Rattle.task_run.specs.Frames.{Frame, handed}
use Rattle.task_run.specs.OwnRun.{Own}
use Rattle.task_run.specs.Results.{TaskResult}
use Rattle.task_run.specs.RunTurns.{ComesBack, Waits}
use Rattle.task_run.specs.Settling.{settle}
use Rattle.task_run.specs.Standings.{IsAt}
use Rattle.task_run.specs.Translation.{owned_by, settled as settled_of, task_result}
use Rattle.task_run.specs.declared.result.Settled.{Settled}
use Rattle.task_run.specs.declared.result.TaskResult.{TaskResult as Made}
use Rattle.task_run.specs.declared.run.Run.{Run}
use Rattle.task_run.specs.declared.turn.Paused.{Paused}
use Rattle.gather.specs.GivesBack.{GiveBack, all_owned}
use Rattle.event_worlds.specs.Events.{give_back}
use Rattle.types.specs.Translation.{is_path}
use Rattle.event_worlds.specs.Shown.{IsBookOf, PutsScope, PutsTask, is_scope, stake}
use Rattle.event_worlds.specs.World.{Scope}
use Rattle.event_worlds.specs.declared.doing.TaskProgress.{TaskProgress}
use Rattle.event_worlds.specs.declared.doing.TaskProgress.TheVariants.{AtEnd, AtFinish, Runs}
use Rattle.types.specs.declared.scope_id.ScopeId.{ScopeId as rScopeId}
use Rattle.event_worlds.specs.declared.scope.WorldScope.{WorldScope as rScope}
use Rattle.event_worlds.specs.declared.task.WorldStake.{WorldStake as rStake}
use Rattle.event_worlds.specs.declared.task.WorldTask.{WorldTask as rTask}
use Rattle.event_worlds.specs.declared.task.Whereabouts.TheVariants.{Hand as rHand, Parked as rParked}
use Rattle.event_worlds.specs.declared.world.World.{World as rWorld}

-- ---- the next action of a task
-- the root's path
abbrev pub is_root : List ℕ → Bool
is_root [] = true
is_root (k ∷ path) = false

-- the task with this path is at the end of a finish; the root's own end counts as the end of a
-- finish
abbrev pub is_waiting : (path : List ℕ) → TaskProgress → Bool
is_waiting path (AtFinish q made) = true
is_waiting path (AtEnd made) = is_root path
is_waiting path _ = false

-- the task with this path is at its end, and isn't the root
abbrev pub has_ended : (path : List ℕ) → TaskProgress → Bool
has_ended path (AtEnd made) = not (is_root path)
has_ended path _ = false

-- ---- the tables before an event
-- a live task, its innermost scope, and its weight there
pub record StandsAt (r : rWorld) (path : Path) : Type 0 where
  pub its : rTask
  pub at : get is_path r.tasks path ≡ Some its
  pub inner : rStake
  pub outer : List rStake
  pub stakes : its.stakes.items ≡ inner ∷ outer
  pub book : rScope
  pub there : get is_scope r.scopes inner.scope ≡ Some book

-- a parked task whose scope has passed, and which is in another scope around it
pub record MayLeave (r : rWorld) (path : Path) : Type 0 where
  pub at : StandsAt r path
  pub place : at.its.place ≡ rParked
  pub next : rStake
  pub outer : List rStake
  pub around : at.outer ≡ next ∷ outer
  pub passed : at.book.passed ≡ true

-- a task at its end, with its result
pub record HasMade (r : rWorld) (path : Path) : Type 0 where
  pub its : rTask
  pub at : get is_path r.tasks path ≡ Some its
  pub made : Made
  pub is : its.doing ≡ AtEnd made

-- no task has more weight in its innermost scope than what is out there
abbrev pub NoneIsLate : rWorld → Type 0
NoneIsLate r =
    (path : Path) (a : StandsAt r path) → a.book.returned + a.inner.weight ≤ a.book.issued

-- the results in a task's innermost scope give back what the task listed in the finish
abbrev pub MayGoOn : rWorld → Path → Type 0
MayGoOn r path =
    (a : StandsAt r path) (q : Paused) (made : Made) (results : Vec Made Global)
    → a.its.doing ≡ AtFinish q made → a.book.results ≡ Some results
    → GiveBack (task_result made) (map task_result results.items)

-- ---- the changes
-- the task with this path became another, and no other task changed
pub record TaskBecomes (old new : rWorld) (path : Path) (Fits : rTask → Type 0) : Type 0 where
  pub to : rTask
  pub fits : Fits to
  pub each : PutsTask old new path to

-- the scope with this name became another, and no other scope changed
pub record ScopeBecomes (old new : rWorld) (id : rScopeId) (Fits : rScope → Type 0) : Type 0 where
  pub to : rScope
  pub fits : Fits to
  pub each : PutsScope old new id to

-- weight comes back to a scope, and results with it
abbrev pub GivesBack : ℕ → List TaskResult → (old new : rScope) → Type 0
GivesBack w rs old new = (b : Scope) → IsBookOf old b → IsBookOf new (give_back w rs b)

-- a task is parked, and has weight 0 in its innermost scope
pub record IsSetDown (old new : rTask) : Type 0 where
  pub place : new.place ≡ rParked
  pub doing : new.doing ≡ old.doing
  pub opened : new.opened ≡ old.opened
  pub stakes : (s : rStake) (outer : List rStake) → old.stakes.items ≡ s ∷ outer
      → map stake new.stakes.items ≡ record (stake s) { weight = 0 } ∷ map stake outer

-- a run continues after a finish, with the settled results
pub record GoesBehind (q : Paused) (made : Made) (results : List TaskResult)
    (run : Run) : Type 0 where
  pub settled : Settled
  pub comes : Some (settled_of settled) ≡ settle (task_result made) results
  pub owned : (p : Place) → owned_by settled.holdings p ≡ all_owned (task_result made) p
  pub stands : (fs : List (Frame Own)) (before st : State Own)
      → Waits q fs before st → ComesBack settled st
      → IsAt run (record { frames = fs; state = handed before (settled_of settled) st })
  pub plan : run.plan ≡ q.plan
  pub nest : run.thread.nest ≡ q.nest

-- a run continues after its finish in this way, with the results of its innermost scope
pub record IsGoneOn (r : rWorld) (path : Path) (a : StandsAt r path) (run : Run) : Type 0 where
  pub paused : Paused
  pub made : Made
  pub was : a.its.doing ≡ AtFinish paused made
  pub results : Vec Made Global
  pub kept : a.book.results ≡ Some results
  pub goes : GoesBehind paused made (map task_result results.items) run

-- a task continues with this run in a hand, in the scope around its innermost one
pub record IsOutside (worker : ℕ) (run : Run) (old new : rTask) : Type 0 where
  pub is : new.doing ≡ Runs run
  pub place : new.place ≡ rHand worker
  pub opened : new.opened ≡ old.opened
  pub stakes : new.stakes.items ≡ drop 1 old.stakes.items

-- a task continues in a hand, in the scope around the finish
pub record IsBehind (worker : ℕ) (results : List TaskResult) (old new : rTask) : Type 0 where
  pub paused : Paused
  pub made : Made
  pub was : old.doing ≡ AtFinish paused made
  pub run : Run
  pub is : new.doing ≡ Runs run
  pub goes : GoesBehind paused made results run
  pub place : new.place ≡ rHand worker
  pub opened : new.opened ≡ old.opened
  pub stakes : new.stakes.items ≡ drop 1 old.stakes.items
