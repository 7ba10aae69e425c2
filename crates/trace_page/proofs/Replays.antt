-- The changes of a replay, event by event.
use Rattle.std.proofs.Common.{◌≡◌, ℕ, ◌+◌, ◌<◌, List, [], ◌∷◌, ◌++◌, Some, length, map, take, get_or, ap, sym, ◌∙◌, refl, subst}
use Rattle.std.proofs.lemmas.List.{map-append, take_more}
use Rattle.std.proofs.lemmas.Option.{same_Some}
use Rattle.serde_json.specs.View.{view}
use Rattle.serde_json.specs.declared.value.Value.{Value}
use Rattle.effects.specs.Rounds.{needs_of}
use Rattle.types.specs.Code.{Program}
use Rattle.types.specs.Outcome.{Budget}
use Rattle.task_run.specs.Jobs.{budget_of, program_of}
use Rattle.events.specs.Events.{Event, event as event_of}
use Rattle.events.specs.declared.event.Event.{Event as rEvent}
use Rattle.event_worlds.specs.Replay.{go_or, replay_from}
use Rattle.event_worlds.specs.World.{World}
use Rattle.event_worlds.specs.Worlds.{event_of as next_world}
use Rattle.event_worlds.specs.declared.job.WeightedJob.{WeightedJob}
use Rattle.event_worlds.proofs.Replaying.{left_comes}
use Rattle.trace_page.specs.Changes.{AreChanges, AreTold, Changes, changes_json}

module _ (p : Program) (w0 : ℕ) (b : Budget) (from : World) (es : List rEvent) where
  -- values that represent the changes of the first n events, which lead to a world
  pub record ToldFirst (n : ℕ) (values : List Value) (at : World) : Type 0 where
    pub told : List Changes
    pub replayed : AreTold p w0 b from (take n es) told at
    pub seen : map view values ≡ map changes_json told

  pub told_none : ToldFirst 0 [] from
  told_none = record { told = []; replayed = AreTold.none; seen = refl }

  pub told_more : (n : ℕ) (e : rEvent) (values : List Value) (v : Value) (at to : World) (told : Changes) → n < length es
      → e ≡ get_or es n e → next_world p w0 b (event_of e) at ≡ Some to → AreChanges (event_of e) at to told
      → view v ≡ changes_json told → ToldFirst n values at → ToldFirst (n + 1) (values ++ v ∷ []) to
  told_more n e values v at to told inside is legal are value was = record {
    told = was.told ++ told ∷ [];
    replayed = subst (λ (l : List rEvent). AreTold p w0 b from l (was.told ++ told ∷ []) to)
        (ap (λ x. take n es ++ x ∷ []) is ∙ sym (take_more es n e inside))
        (AreTold.one_more (take n es) was.told at to e told was.replayed legal are);
    seen = map-append view values (v ∷ []) ∙ ap (λ l. l ++ view v ∷ []) was.seen
        ∙ ap (λ d. map changes_json was.told ++ d ∷ []) value
        ∙ sym (map-append changes_json was.told (told ∷ []));
  }

-- a legal event leads on
pub comes_on : (j : WeightedJob) (at to : World) (n : ℕ) (e : rEvent) (es : List rEvent)
    → next_world (program_of j.job) j.w0 (budget_of j.job) (event_of e) at ≡ Some to
    → left_comes j n (e ∷ es) at ≡ left_comes j (n + 1) es to
comes_on j at to n e es legal =
    ap (go_or n (replay_from (program_of j.job) (needs_of (program_of j.job)) (budget_of j.job).steps j.w0 (n + 1) (map event_of es)))
    legal

-- an event leads to one world
pub one_world : (p : Program) (w0 : ℕ) (b : Budget) (e : Event) (at to other : World)
    → next_world p w0 b e at ≡ Some to → next_world p w0 b e at ≡ Some other → other ≡ to
one_world p w0 b e at to other one two = same_Some other to (sym two ∙ one)
