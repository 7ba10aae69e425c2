-- The events that a live task may do next, depending on its location. Until the root's scope has
-- passed, one of these is legal for some task, or a task needs weight from a scope that has issued
-- 2^31 times.
use Rattle.std.specs.Prelude.{ℕ, List, [], ◌∷◌, None}
use Rattle.event_worlds.specs.World.{Stake, Whereabouts, Queue, Hand, Parked}
use Rattle.event_worlds.specs.Events.{Event, Take, Steps, Replenish, Spawns, Opens, Parks, Ends, Pass, Resume}

-- in a hand
abbrev pub in_hand : (path : List ℕ) → List Event
in_hand path = Ends path ∷ Parks path ∷ Opens path ∷ Replenish path ∷ Spawns path ∷ Steps path ∷ []

-- parked: its innermost scope may pass, or a worker may take it
abbrev pub when_parked : (worker : ℕ) (path : List ℕ) → List Stake → List Event
when_parked worker path [] = []
when_parked worker path (s ∷ outer) = Pass s.scope ∷ Resume worker path None ∷ []

-- anywhere; steals are left out
abbrev pub candidates : (worker : ℕ) (path : List ℕ) → Whereabouts → List Stake → List Event
candidates worker path (Queue v) stakes = Take v path ∷ []
candidates worker path (Hand v) stakes = in_hand path
candidates worker path Parked stakes = when_parked worker path stakes
