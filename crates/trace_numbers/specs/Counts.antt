-- Counts in a list of events: steps, tasks, steals, and live tasks.
use Rattle.std.specs.Prelude.{ℕ, ◌+◌, ◌-◌, max, List, [], ◌∷◌, length, Bool, true, false, count_by}
use Rattle.events.specs.declared.event.Event.{Event}
use Rattle.events.specs.declared.event.Event.TheVariants.{Steal, Step, Replenish, Spawn, Open, End}

-- one of the language's steps
abbrev pub is_step : Event → Bool
is_step (Step path) = true
is_step (Spawn path) = true
is_step (Open path) = true
is_step _ = false

abbrev pub is_spawn : Event → Bool
is_spawn (Spawn path) = true
is_spawn _ = false

abbrev pub is_steal : Event → Bool
is_steal (Steal worker from path) = true
is_steal _ = false

abbrev pub is_replenishing : Event → Bool
is_replenishing (Replenish path) = true
is_replenishing _ = false

-- the work: all steps of all tasks
abbrev pub steps_in : List Event → ℕ
steps_in es = count_by is_step es

-- the root, and those that were spawned
abbrev pub tasks_in : List Event → ℕ
tasks_in es = count_by is_spawn es + 1

-- the number of asyncs that a spawned task is nested in
abbrev pub nest_of : Event → ℕ
nest_of (Spawn path) = length path.turns.items + 1
nest_of _ = 0

-- the deepest of all tasks
abbrev pub deepest : List Event → ℕ
deepest [] = 0
deepest (e ∷ es) = max (nest_of e) (deepest es)

-- the number of live tasks after an event
abbrev pub alive_after : Event → ℕ → ℕ
alive_after (Spawn path) n = n + 1
alive_after (End path) n = n - 1
alive_after _ n = n

-- the maximum number of live tasks, given the number now and the maximum so far
abbrev pub most_alive_from : (now most : ℕ) → List Event → ℕ
most_alive_from now most [] = most
most_alive_from now most (e ∷ es) =
    most_alive_from (alive_after e now) (max most (alive_after e now)) es

-- at first, the root is live
abbrev pub most_alive : List Event → ℕ
most_alive = most_alive_from 1 1
