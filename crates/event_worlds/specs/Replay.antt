-- The world of a program's tasks: each does the actions of its own run.
use Rattle.std.specs.Prelude.{ℕ, ◌+◌, List, [], ◌∷◌, ℤ, Bool, true, false, nat_eq, Option, Some, None}
use Rattle.types.specs.Code.{Codes, Program}
use Rattle.types.specs.Outcome.{Budget, Outcome}
use Rattle.effects.specs.Needs.{Needs}
use Rattle.task_run.specs.Results.{TaskResult, and_then}
use Rattle.task_run.specs.Settling.{settle}
use Rattle.task_run.specs.OwnRun.{Start, Action, actions_of, result_of, run_by}
use Rattle.task_run.specs.Given.{root_of, told_of}
use Rattle.event_worlds.specs.Gathered.{faults_in, faults_of}
use Rattle.event_worlds.specs.World.{Stake, ScopeId, World, scope, root_scope, task}
use Rattle.event_worlds.specs.Events.{only_if, Event, Resume, next, first_world}

-- a world, or the number of the first event that isn't legal
pub data Replayed : Type 0 where
  Legal : World → Replayed
  IllegalAt : ℕ → Replayed

-- continues with the world after an event, unless the event isn't legal
abbrev pub go_or : ℕ → (World → Replayed) → Option World → Replayed
go_or n go None = IllegalAt n
go_or n go (Some w) = go w

-- the innermost of some scopes
abbrev pub innermost : List Stake → Option ScopeId
innermost [] = None
innermost (s ∷ outer) = Some s.scope

-- whether there is a number, and it is this one
abbrev pub is_number : ℕ → Option ℕ → Bool
is_number n None = false
is_number n (Some m) = nat_eq n m

module _ (p : Program) (needs : Codes → Needs) (fresh w0 : ℕ) where
  -- the actions of the own run with these receipts
  abbrev pub does : Start → List (List TaskResult) → List Action
  does s receipts = actions_of (run_by p needs fresh receipts s)

  -- its result with these receipts
  abbrev pub hands_on : Start → List (List TaskResult) → TaskResult
  hands_on s receipts = result_of (run_by p needs fresh receipts s)

  -- the number of faults that the finish has gathered at whose end a task waits
  abbrev pub gathered : List ℕ → World → Option ℕ
  gathered path world =
      and_then (task path world.live) (λ t.
      and_then (innermost t.stakes) (λ id.
      and_then (scope id world.scopes) (λ s.
      Some (faults_of s.results + faults_in (hands_on t.start t.receipts)))))

  -- if a resume has a number of faults, it is that number
  abbrev pub tells : Event → World → Bool
  tells (Resume w path (Some n)) world = is_number n (gathered path world)
  tells e world = true

  -- the world after an event
  abbrev pub event : Event → World → Option World
  event e world = only_if (tells e world) (next w0 does hands_on e world)

  -- a list of events, whose first event has this number
  abbrev pub replay_from : ℕ → List Event → World → Replayed
  replay_from n [] world = Legal world
  replay_from n (e ∷ es) world = go_or n (replay_from (n + 1) es) (event e world)

  -- the outcome, once the root's scope has passed
  abbrev pub world_outcome : World → Option Outcome
  world_outcome world =
      and_then (scope root_scope world.scopes) (λ s. only_if s.passed (
      and_then (task [] world.live) (λ t.
      and_then (settle (hands_on t.start t.receipts) s.results) (λ x. Some (told_of p x)))))

-- the world at the start
abbrev pub start_of : (p : Program) (w0 : ℕ) (input : List (List ℤ)) → Budget → World
start_of p w0 input b = first_world w0 (root_of p input b.nest)

-- a list of events, from the start
abbrev pub replay : (p : Program) (needs : Codes → Needs) (w0 : ℕ) (input : List (List ℤ)) → Budget
    → List Event → Replayed
replay p needs w0 input b es = replay_from p needs b.steps w0 0 es (start_of p w0 input b)
