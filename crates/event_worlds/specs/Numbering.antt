-- Events, each resume of which has the number of faults that its finish has gathered.
use Rattle.std.specs.Prelude.{ℕ, ℤ, List, [], ◌∷◌, Option, Some, None}
use Rattle.types.specs.Code.{Codes, Program}
use Rattle.types.specs.Outcome.{Budget}
use Rattle.effects.specs.Needs.{Needs}
use Rattle.effects.specs.Rounds.{needs_of}
use Rattle.event_worlds.specs.Events.{Event, Resume}
use Rattle.event_worlds.specs.Replay.{event, gathered, start_of}
use Rattle.event_worlds.specs.World.{World}

-- goes on after an event, if it is legal
abbrev pub if_legal : (World → List Event) → Option World → List Event
if_legal go None = []
if_legal go (Some w) = go w

module _ (p : Program) (needs : Codes → Needs) (fresh w0 : ℕ) where
  -- an event with this number, if it is a resume
  abbrev pub with_number : Event → World → Event
  with_number (Resume w path faults) world = Resume w path (gathered p needs fresh w0 path world)
  with_number e world = e

  -- the events from a world on, up to the first that isn't legal
  abbrev pub numbered_from : List Event → World → List Event
  numbered_from [] world = []
  numbered_from (e ∷ es) world =
      with_number e world ∷ if_legal (numbered_from es) (event p needs fresh w0 e world)

-- the events of a program's run from the start
abbrev pub numbered : (p : Program) (w0 : ℕ) (input : List (List ℤ)) → Budget → List Event → List Event
numbered p w0 input b es = numbered_from p (needs_of p) b.steps w0 es (start_of p w0 input b)
