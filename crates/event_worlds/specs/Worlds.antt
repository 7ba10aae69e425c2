-- The worlds of a program's run on an input and under a budget, with the computed needs.
use Rattle.std.specs.Prelude.{ℕ, ℤ, ◌≡◌, ◌+◌, ◌≤◌, ◌*◌, ◌^◌, List, ◌∷◌, ◌++◌, length, Option, Some, None}
use Rattle.types.specs.Code.{Program}
use Rattle.types.specs.Outcome.{Budget, Outcome}
use Rattle.types.specs.Run.{State}
use Rattle.effects.specs.Rounds.{needs_of}
use Rattle.task_run.specs.Frames.{AtEnd, Follows, Frame}
use Rattle.task_run.specs.OwnRun.{Start, Action, Own, Spawn, result_of}
use Rattle.task_run.specs.Given.{given, IsOfOwnRun}
use Rattle.task_run.specs.Results.{Settled, TaskResult}
use Rattle.task_run.specs.Runs.{MayStand, root}
use Rattle.task_run.specs.Settling.{settle}
use Rattle.event_worlds.specs.World.{Stake, Live, Scope, World, task, scope}
use Rattle.event_worlds.specs.Events.{Event, next_action}
use Rattle.event_worlds.specs.Replay.{does, hands_on, event, Replayed, Legal, replay, world_outcome}

module _ (p : Program) (input : List (List ℤ)) (b : Budget) where
  -- the start given to a path, in the run of the program
  abbrev pub given_to : List ℕ → Option Start
  given_to = given p (needs_of p) b.steps (root p input b)

  -- a result is that of the own run of a task, whose path is given its start
  abbrev pub ComesOfOwnRun : TaskResult → Type 0
  ComesOfOwnRun = IsOfOwnRun p (needs_of p) b.steps (root p input b)

  -- a parked task is at the end of a finish, and these results settle what it has made in this
  -- finish
  pub record Settles (t : Live) (results : List TaskResult) : Type 0 where
    pub before : State Own
    pub frames : List (Frame Own)
    pub state : State Own
    pub stands : MayStand p input b t.start (record { frames = AtEnd before ∷ frames; state = state })
    pub follows : Follows p (needs_of p) b.steps (root p input b) t.start t.receipts
        (record { frames = AtEnd before ∷ frames; state = state })
    pub done : length state.extra.actions + 1 ≡ t.done
    pub settled : Settled
    pub settles : settle (result_of state) results ≡ Some settled

-- a task needs weight from a scope that has issued w0 for 2^31 times
pub record IsSpentBy (next : Live → Option Action) (w0 : ℕ) (w : World) : Type 0 where
  pub path : List ℕ
  pub its : Live
  pub lives : task path w.live ≡ Some its
  pub child : Start
  pub wants : next its ≡ Some (Spawn child)
  pub inner : Stake
  pub outer : List Stake
  pub stakes : its.stakes ≡ inner ∷ outer
  pub one : inner.weight ≡ 1
  pub book : Scope
  pub found : scope inner.scope w.scopes ≡ Some book
  pub spent : 2 ^ 31 * w0 ≤ book.issued

-- the events before the n-th lead to a world, in which the n-th event isn't legal
pub record IsFirstRefused (leads : List Event → World → Type 0) (next : Event → World → Option World)
    (es : List Event) (n : ℕ) : Type 0 where
  pub before : List Event
  pub first : Event
  pub later : List Event
  pub are : es ≡ before ++ first ∷ later
  pub count : length before ≡ n
  pub to : World
  pub legal : leads before to
  pub illegal : next first to ≡ None

module _ (p : Program) (w0 : ℕ) (b : Budget) where
  -- the world after an event, if it is legal
  abbrev pub event_of : Event → World → Option World
  event_of = event p (needs_of p) b.steps w0

  -- a task's next action
  abbrev pub next_of : Live → Option Action
  next_of = next_action w0 (does p (needs_of p) b.steps w0) (hands_on p (needs_of p) b.steps w0)

  -- the outcome of a world, once the root's scope has passed
  abbrev pub outcome_of : World → Option Outcome
  outcome_of = world_outcome p (needs_of p) b.steps w0

  -- some event is legal
  pub record IsFree (w : World) : Type 0 where
    pub first : Event
    pub to : World
    pub legal : event_of first w ≡ Some to

  -- a task needs weight from a scope that has issued 2^31 times
  abbrev pub IsSpent : World → Type 0
  IsSpent = IsSpentBy next_of w0

module _ (p : Program) (w0 : ℕ) (input : List (List ℤ)) (b : Budget) where
  -- the world that events lead to, or the number of the first that isn't legal
  abbrev pub replayed : List Event → Replayed
  replayed = replay p (needs_of p) w0 input b

  -- events are legal from the start, and lead to a world
  abbrev pub LeadsTo : List Event → World → Type 0
  LeadsTo es w = replayed es ≡ Legal w

  -- the events before the n-th are legal, and the n-th isn't
  abbrev pub IsFirstIllegal : List Event → ℕ → Type 0
  IsFirstIllegal = IsFirstRefused LeadsTo (event_of p w0 b)
