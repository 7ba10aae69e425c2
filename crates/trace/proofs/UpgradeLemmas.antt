-- Events with their numbers, one after the other.
use Rattle.std.proofs.Common.{◌≡◌, ℕ, ◌+◌, List, [], ◌∷◌, ◌++◌, Some, append_assoc, ap, ◌∙◌, map, sym, subst}
use Rattle.std.proofs.lemmas.List.{map-append}
use Rattle.effects.specs.Rounds.{needs_of}
use Rattle.task_run.specs.Jobs.{budget_of, program_of}
use Rattle.events.specs.declared.event.Event.{Event}
use Rattle.event_worlds.specs.Events.{Event as AnEvent}
use Rattle.event_worlds.specs.Numbering.{if_legal, numbered_from}
use Rattle.event_worlds.specs.Replay.{go_or, replay_from}
use Rattle.event_worlds.specs.Replaying.{event}
use Rattle.event_worlds.specs.Shown.{Shows, next_world}
use Rattle.event_worlds.specs.Telling.{IsNumbered}
use Rattle.event_worlds.specs.World.{World}
use Rattle.event_worlds.specs.declared.job.WeightedJob.{WeightedJob}
use Rattle.event_worlds.specs.declared.world.World.{World as rWorld}
use Rattle.event_worlds.proofs.Replaying.{left_comes}

abbrev pub from : WeightedJob → List AnEvent → World → List AnEvent
from j = numbered_from (program_of j.job) (needs_of (program_of j.job)) (budget_of j.job).steps j.w0

-- the replay of the rest of a list goes on after a legal event
pub goes_to : (j : WeightedJob) (old : rWorld) → old.job ≡ j → (at to : World) (n : ℕ) (e : Event) (rest : List Event)
    → next_world old.job (event e) at ≡ Some to → left_comes j n (e ∷ rest) at ≡ left_comes j (n + 1) rest to
goes_to j old same at to n e rest legal =
    ap (go_or n (replay_from (program_of j.job) (needs_of (program_of j.job)) (budget_of j.job).steps j.w0 (n + 1) (map event rest)))
    (ap (λ k. next_world k (event e) at) (sym same) ∙ legal)

module _ (r : rWorld) (at to : World) (e told : Event) (rest : List Event) (shows : Shows r at)
    (legal : next_world r.job (event e) at ≡ Some to) (numbered : IsNumbered r (event e) (event told)) where
  one_here : from r.job (map event (e ∷ rest)) at ≡ event told ∷ from r.job (map event rest) to
  one_here =
      ap (λ x. x ∷ if_legal (from r.job (map event rest)) (next_world r.job (event e) at)) (sym (numbered at to shows legal))
      ∙ ap (λ o. event told ∷ if_legal (from r.job (map event rest)) o) legal

  -- one event more, for a job
  pub one_more : (j : WeightedJob) → r.job ≡ j → (before all : List Event) (left : List Event) → left ≡ e ∷ rest
      → (want : List AnEvent) → map event before ++ from j (map event left) at ≡ want
      → map event (before ++ told ∷ []) ++ from j (map event rest) to ≡ want
  one_more j same before all left split want h =
      ap (λ xs. xs ++ from j (map event rest) to) (map-append event before (told ∷ []))
      ∙ append_assoc (map event before) (event told ∷ []) (from j (map event rest) to)
      ∙ ap (λ xs. map event before ++ xs) (sym (subst (λ k. from k (map event (e ∷ rest)) at ≡ event told ∷ from k (map event rest) to) same one_here))
      ∙ ap (λ xs. map event before ++ from j (map event xs) at) (sym split)
      ∙ h
