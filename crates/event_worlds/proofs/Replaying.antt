-- Lists of events, one after the other.
use Rattle.std.proofs.Common.{◌≡◌, ℕ, ◌+◌, List, ◌∷◌, sym, ap, ◌∙◌, map}
use Rattle.effects.specs.Rounds.{needs_of}
use Rattle.task_run.specs.Jobs.{program_of, budget_of}
use Rattle.event_worlds.specs.Replay.{Replayed, IllegalAt, go_or, replay_from}
use Rattle.event_worlds.specs.Replaying.{event}
use Rattle.event_worlds.specs.Shown.{Becomes, Shows, next_world}
use Rattle.event_worlds.specs.Walks.{IsIllegal}
use Rattle.event_worlds.specs.World.{World}
use Rattle.events.specs.declared.event.Event.{Event as rEvent}
use Rattle.event_worlds.specs.declared.job.WeightedJob.{WeightedJob}
use Rattle.event_worlds.specs.declared.world.World.{World as rWorld}

-- the replay of the rest of a list
abbrev pub left_comes : WeightedJob → ℕ → List rEvent → World → Replayed
left_comes j n es w =
    replay_from (program_of j.job) (needs_of (program_of j.job)) (budget_of j.job).steps j.w0 n (map event es) w

module _ (j : WeightedJob) (old : rWorld) (same : old.job ≡ j) (w : World) (h : Shows old w) (n : ℕ) (e : rEvent) (es : List rEvent)
    (new : rWorld) where
  -- a legal event leads on
  pub goes_on : (b : Becomes (event e) old new)
      → (to : World) × (left_comes j n (e ∷ es) w ≡ left_comes j (n + 1) es to) × Shows new to
  goes_on b =
      let s = b w h in (
        s.0,
        ap (go_or n (replay_from (program_of j.job) (needs_of (program_of j.job)) (budget_of j.job).steps j.w0 (n + 1) (map event es)))
            (ap (λ i. next_world i (event e) w) (sym same) ∙ s.1),
        s.2,
      )

  -- an illegal event is the first illegal one of the rest
  pub stops_at : IsIllegal old (event e) → left_comes j n (e ∷ es) w ≡ IllegalAt n
  stops_at none =
      ap (go_or n (replay_from (program_of j.job) (needs_of (program_of j.job)) (budget_of j.job).steps j.w0 (n + 1) (map event es)))
      (ap (λ i. next_world i (event e) w) (sym same) ∙ none w h)
