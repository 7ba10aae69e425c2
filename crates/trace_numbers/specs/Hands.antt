-- The steps of each worker: those of the tasks that it took or resumed last.
use Rattle.std.specs.Prelude.{ℕ, ◌+◌, List, [], ◌∷◌, Option, None, Some, if◌then◌else◌, nat_eq}
use Rattle.std.specs.Prelude.{replicate, slice_index, slice_set}
use Rattle.std.specs.Cmp.Lexicographic.{pointwise}
use Rattle.events.specs.declared.event.Event.{Event}
use Rattle.events.specs.declared.event.Event.TheVariants.{Take, Steal, Step, Replenish, Spawn}
use Rattle.events.specs.declared.event.Event.TheVariants.{Open, Park, End, Pass, Resume}

-- for each task, by its path: who took or resumed it last; the steps of each worker, by its number
pub record Hands : Type 0 where
  pub holder : List ℕ → Option ℕ
  pub did : List ℕ

-- a worker takes a task
abbrev pub taken : (worker : ℕ) → (path : List ℕ) → Hands → Hands
taken worker path h = record h {
  holder = λ other. if pointwise nat_eq path other then Some worker else h.holder other;
}

-- a worker did one more step; a step of a task that no worker took counts for nobody
abbrev pub did_more : Option ℕ → List ℕ → List ℕ
did_more None did = did
did_more (Some worker) did = slice_set did worker (slice_index did worker + 1)

-- a task takes a step
abbrev pub one_step : (path : List ℕ) → Hands → Hands
one_step path h = record h { did = did_more (h.holder path) h.did }

abbrev pub handled : Event → Hands → Hands
handled (Take worker path) h = taken worker path.turns.items h
handled (Steal worker from path) h = h
handled (Step path) h = one_step path.turns.items h
handled (Replenish path) h = h
handled (Spawn path) h = one_step path.turns.items h
handled (Open path) h = one_step path.turns.items h
handled (Park path) h = h
handled (End path) h = h
handled (Pass scope) h = h
handled (Resume worker path faults) h = taken worker path.turns.items h

abbrev pub hands_after : List Event → Hands → Hands
hands_after [] h = h
hands_after (e ∷ es) h = hands_after es (handled e h)

-- no task was taken, and none of the 64 workers has done a step
abbrev pub no_hands : Hands
no_hands = record { holder = λ path. None; did = replicate 64 0 }

abbrev pub steps_by_worker : List Event → List ℕ
steps_by_worker es = (hands_after es no_hands).did
