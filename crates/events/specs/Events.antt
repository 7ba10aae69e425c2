-- The ten events, and which of them an event in Rust represents.
use Rattle.std.specs.Prelude.{ℕ, List, Option}
use Rattle.types.specs.declared.path.Path.{Path}
use Rattle.types.specs.declared.scope_id.ScopeId.{ScopeId as rScopeId}
use Rattle.events.specs.declared.event.Event.{Event as rEvent}
use Rattle.events.specs.declared.event.Event.TheVariants.{Take as rTake, Steal as rSteal, Step as rStep}
use Rattle.events.specs.declared.event.Event.TheVariants.{Replenish as rReplenish, Spawn as rSpawn}
use Rattle.events.specs.declared.event.Event.TheVariants.{Open as rOpen, Park as rPark, End as rEnd}
use Rattle.events.specs.declared.event.Event.TheVariants.{Pass as rPass, Resume as rResume}

-- a scope's name: the path of its owner, and the number of the finish among the owner's, from 1
pub record ScopeId : Type 0 where
  pub owner : List ℕ
  pub number : ℕ

pub data Event : Type 0 where
  -- a worker takes a task from its queue into its hand
  Take : (worker : ℕ) → (path : List ℕ) → Event
  -- a worker takes a task from another's queue into its own
  Steal : (worker from : ℕ) → (path : List ℕ) → Event
  -- a task does one step, of a statement other than async and finish
  Steps : (path : List ℕ) → Event
  -- a task of weight 1 gets more weight from its innermost scope
  Replenish : (path : List ℕ) → Event
  -- a task spawns another task, and shares its weight with it
  Spawns : (path : List ℕ) → Event
  -- a task starts a finish
  Opens : (path : List ℕ) → Event
  -- a task is at the end of its innermost finish, and gives back its weight there
  Parks : (path : List ℕ) → Event
  -- a task is at its end, and gives back its weight and its result
  Ends : (path : List ℕ) → Event
  -- a scope passes, because all its weight has come back
  Pass : ScopeId → Event
  -- a worker takes a task that was parked at a passed scope; in a trace of format 2 there is the
  -- number of faults that its finish has gathered
  Resume : (worker : ℕ) → (path : List ℕ) → (faults : Option ℕ) → Event

-- ---- Rust values, without their locations in memory
abbrev pub turns_of : Path → List ℕ
turns_of path = path.turns.items

abbrev pub scope_id : rScopeId → ScopeId
scope_id i = record { owner = i.owner.turns.items; number = i.number }

abbrev pub event : rEvent → Event
event (rTake worker path) = Take worker path.turns.items
event (rSteal worker from path) = Steal worker from path.turns.items
event (rStep path) = Steps path.turns.items
event (rReplenish path) = Replenish path.turns.items
event (rSpawn path) = Spawns path.turns.items
event (rOpen path) = Opens path.turns.items
event (rPark path) = Parks path.turns.items
event (rEnd path) = Ends path.turns.items
event (rPass id) = Pass (scope_id id)
event (rResume worker path faults) = Resume worker path.turns.items faults
