-- Steals, in the order of the events.
use Rattle.std.specs.Prelude.{ℕ, ◌+◌, List, [], ◌∷◌, ◌++◌}
use Rattle.events.specs.declared.event.Event.{Event}
use Rattle.events.specs.declared.event.Event.TheVariants.{Take, Steal as Steals, Step, Replenish, Spawn}
use Rattle.events.specs.declared.event.Event.TheVariants.{Open, Park, End, Pass, Resume}
use Rattle.trace_layout.specs.declared.moves.Steal.{Steal}

-- the steal that the event with a number is, if it is one
abbrev pub steal_of : ℕ → Event → List Steal
steal_of n (Take worker path) = []
steal_of n (Steals worker from path) = record { at = n; worker = worker; from = from } ∷ []
steal_of n (Step path) = []
steal_of n (Replenish path) = []
steal_of n (Spawn path) = []
steal_of n (Open path) = []
steal_of n (Park path) = []
steal_of n (End path) = []
steal_of n (Pass scope) = []
steal_of n (Resume worker path faults) = []

-- all steals of events that are numbered from a number on
abbrev pub steals_from : ℕ → List Event → List Steal
steals_from n [] = []
steals_from n (e ∷ es) = steal_of n e ++ steals_from (n + 1) es
