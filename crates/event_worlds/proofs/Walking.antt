-- Walks: one more event, a candidate that isn't legal, and the consequence if none is.
use Rattle.std.proofs.Common.{◌≡◌, ℕ, ◌+◌, ◌<◌, List, [], ◌∷◌, ◌++◌, length, Some, None, sym, ap, ◌∙◌, subst}
use Rattle.std.proofs.Common.{map, refl, inl, inr, take}
use Rattle.std.proofs.lemmas.List.{map-append, length-append, take_more}
use Rattle.std.proofs.lemmas.List.Elements.{Contains-append_left, Contains-append_right}
use Rattle.std.specs.Prelude.{Bool, Contains, true, false, ◌||◌, ◌⊎◌, slice_index_or}
use Rattle.std.specs.Set.{is_member}
use Rattle.std.specs.HashMap.{get}
use Rattle.types.specs.declared.path.Path.{Path}
use Rattle.task_run.specs.Lists.{Each}
use Rattle.task_run.proofs.Lists.{each_last}
use Rattle.task_run.proofs.SettledResults.{paths_same}
use Rattle.task_run.specs.Jobs.{program_of, lists_of, budget_of}
use Rattle.event_worlds.specs.Candidates.{candidates}
use Rattle.event_worlds.specs.Events.{Event}
use Rattle.event_worlds.specs.Jobs.{IsWeightedJob}
use Rattle.event_worlds.specs.Replay.{Legal}
use Rattle.event_worlds.specs.Replaying.{IsReplayed, comes, event}
use Rattle.types.specs.Translation.{is_path}
use Rattle.event_worlds.specs.Shown.{Becomes, IsTaskOf, Refuses, Shows, next_world, turns_of}
use Rattle.event_worlds.specs.Walks.{AreCandidates, AreTasks, HasOneMore, HasStopped, IsAsBefore, IsIdle}
use Rattle.event_worlds.specs.Walks.{IsIllegal, IsWalk}
use Rattle.event_worlds.specs.World.{Live, World, has_passed, root_scope, task}
use Rattle.event_worlds.specs.Worlds.{IsSpent, LeadsTo}
use Rattle.event_worlds.specs.declared.error.EventError.{EventError}
use Rattle.event_worlds.specs.declared.error.EventError.TheVariants.{Illegal}
use Rattle.events.specs.declared.event.Event.{Event as rEvent}
use Rattle.event_worlds.specs.declared.job.WeightedJob.{WeightedJob}
use Rattle.event_worlds.specs.declared.walk.Walk.{Walk}
use Rattle.event_worlds.specs.declared.world.World.{World as rWorld}
use Rattle.event_worlds.proofs.Histories.{contains_here}
use Rattle.event_worlds.proofs.NeverStuck.{each_has, stuck}
use Rattle.event_worlds.proofs.Outcomes.{legal_same}
use Rattle.event_worlds.proofs.Staying.{stays_shown}
use Rattle.event_worlds.proofs.Tables.{is_there, led_on}

-- ---- events that were legal
-- a legal event after those of a replay
pub replayed_on : (j : WeightedJob) (es : List rEvent) (e : rEvent) (old new : rWorld) → IsReplayed j es old → Becomes (event e) old new
    → new.job ≡ old.job → IsReplayed j (es ++ e ∷ []) new
replayed_on j es e old new i b same =
    let s = b i.world i.shows in
    record {
      world = s.0;
      legal = subst (λ l. LeadsTo (program_of j.job) j.w0 (lists_of j.job) (budget_of j.job) l s.0) (sym (map-append event es (e ∷ [])))
          (led_on (program_of j.job) j.w0 (lists_of j.job) (budget_of j.job) (event e) (map event es) i.world s.0 i.legal
          (ap (λ k. next_world k (event e) i.world) (sym i.job) ∙ s.1));
      shows = s.2;
      job = same ∙ i.job;
    }

module _ (old new : Walk) (e : rEvent) (i : IsWalk old) (same : new.world.job ≡ old.world.job) where
  -- after an event that was legal
  pub happened : Becomes (event e) old.world new.world → new.events.items ≡ old.events.items ++ e ∷ [] → HasOneMore old new
  happened b items = record {
    walk = record {
      job = subst IsWeightedJob (sym same) i.job;
      replayed = subst (λ k. IsReplayed k new.events.items new.world) (sym same)
          (subst (λ l. IsReplayed old.world.job l new.world) (sym items)
          (replayed_on old.world.job old.events.items e old.world new.world i.replayed b same));
    };
    job = same;
    more = ap length items ∙ length-append old.events.items (e ∷ []);
  }

  -- after an event that wasn't legal
  pub did_not_happen : (x : EventError) → x ≡ Illegal → Refuses (event e) old.world new.world x
      → new.events.items ≡ old.events.items → IsAsBefore old new
  did_not_happen x is r items = record {
    walk = record {
      job = subst IsWeightedJob (sym same) i.job;
      replayed = subst (λ k. IsReplayed k new.events.items new.world) (sym same)
          (subst (λ l. IsReplayed old.world.job l new.world) (sym items) (record {
            world = i.replayed.world;
            legal = i.replayed.legal;
            shows = stays_shown old.world new.world (subst (Refuses (event e) old.world new.world) is r).0 i.replayed.world i.replayed.shows;
            job = same ∙ i.replayed.job;
          }));
    };
    job = same;
    same = items;
    shows = stays_shown old.world new.world (subst (Refuses (event e) old.world new.world) is r).0;
  }

pub was_illegal : (old new : rWorld) (e : Event) (x : EventError) → x ≡ Illegal → Refuses e old new x → IsIllegal old e
was_illegal old new e x is r w s = (subst (Refuses e old new) is r).1 w s

-- ---- one after the other
pub still_on : (a b c : Walk) → IsAsBefore a b → IsAsBefore b c → IsAsBefore a c
still_on a b c h k = record { walk = k.walk; job = k.job ∙ h.job; same = k.same ∙ h.same; shows = λ w s. k.shows w (h.shows w s) }

pub idle_before : (a b : Walk) → IsAsBefore a b → (worker : ℕ) (path : List ℕ) → IsIdle b.world worker path → IsIdle a.world worker path
idle_before a b h worker path i w s t lives =
    subst (λ j. Each (λ e. next_world j e w ≡ None) (candidates worker path t.place t.stakes)) h.job (i w (h.shows w s) t lives)

pub illegal_before : (a b : Walk) → IsAsBefore a b → (e : Event) → IsIllegal b.world e → IsIllegal a.world e
illegal_before a b h e i w s = subst (λ j. next_world j e w ≡ None) h.job (i w (h.shows w s))

-- ---- candidates
each_there : (r : rWorld) (w : World) → Shows r w → (es : List Event) → Each (IsIllegal r) es → Each (λ e. next_world r.job e w ≡ None) es
each_there r w s [] h = tt
each_there r w s (e ∷ es) h = (h.0 w s, each_there r w s es h.1)

pub idle : (r : rWorld) (worker : ℕ) (path : List ℕ) (es : List Event) → AreCandidates r worker path es → Each (IsIllegal r) es
    → IsIdle r worker path
idle r worker path es are h w s t lives = subst (Each (λ e. next_world r.job e w ≡ None)) (are w s t lives) (each_there r w s es h)

-- ---- a walk that has stopped
-- none of its tasks has a candidate that is legal
pub stopped : (old new : Walk) → IsWalk old → IsAsBefore old new → (paths : List (List ℕ)) → AreTasks old.world paths
    → Each (IsIdle old.world 0) paths → HasStopped new
stopped old new i h paths all none to e =
    subst (λ j. (has_passed root_scope to ≡ true) ⊎ IsSpent (program_of j.job) j.w0 (budget_of j.job) to) (sym h.job)
    (stuck (program_of j.job) i.job.job.sound i.job.job.accepted j.w0 i.job.least (lists_of j.job) (budget_of j.job) i.job.job.fits (map event old.events.items) to leads
    no_candidate)
  where
    j : WeightedJob
    j = old.world.job

    leads : comes j old.events.items ≡ Legal to
    leads = ap (comes j) (sym h.same) ∙ ap (λ k. comes k new.events.items) (sym h.job) ∙ e

    shows : Shows old.world to
    shows = subst (Shows old.world) (legal_same i.replayed.world to (sym i.replayed.legal ∙ leads)) i.replayed.shows

    no_candidate : (q : List ℕ) (t : Live) → task q to.live ≡ Some t
        → Each (λ e. next_world j e to ≡ None) (candidates 0 q t.place t.stakes)
    no_candidate q t lives =
        let p = shows.paths q t lives in
        let lives_so : task p.0.turns.items to.live ≡ Some t = ap (λ x. task x to.live) p.1 ∙ lives in
        let here = is_there (IsTaskOf j.job) t (get is_path old.world.tasks p.0) (task p.0.turns.items to.live) (shows.tasks p.0) lives_so in
        let idle_here = each_has (IsIdle old.world 0) paths p.0.turns.items none (all p.0 here) in
        subst (λ x. Each (λ e. next_world j e to ≡ None) (candidates 0 x t.place t.stakes)) p.1 (idle_here to shows t lives_so)

-- at the end of a walk whose world has passed
pub passed_over : (walk : Walk) → IsWalk walk → ((w : World) → Shows walk.world w → has_passed root_scope w ≡ true) → HasStopped walk
passed_over walk i passed to e =
    inl (passed to (subst (Shows walk.world) (legal_same i.replayed.world to (sym i.replayed.legal ∙ e)) i.replayed.shows))

-- ---- the tasks of a table
-- with one task that was still to come
pub named_more : (p new q : Path) (old_left left : List Path) (old_paths paths : List Path) → old_left ≡ p ∷ left
    → new.turns.items ≡ p.turns.items → paths ≡ old_paths ++ new ∷ []
    → Contains (map turns_of old_paths) q.turns.items ⊎ (is_member is_path old_left q ≡ true)
    → Contains (map turns_of paths) q.turns.items ⊎ (is_member is_path left q ≡ true)
named_more p new q old_left left old_paths paths is same are h = by_case h
  where
    appended : map turns_of paths ≡ map turns_of old_paths ++ new.turns.items ∷ []
    appended = ap (map turns_of) are ∙ map-append turns_of old_paths (new ∷ [])

    here : is_path q p ≡ true → Contains (map turns_of paths) q.turns.items
    here e =
        subst (λ xs. Contains xs q.turns.items) (sym appended)
        (Contains-append_right (map turns_of old_paths) (new.turns.items ∷ []) q.turns.items
        (subst (λ x. Contains (x ∷ []) q.turns.items) (paths_same q.turns.items p.turns.items e ∙ sym same) (contains_here q.turns.items [])))

    by_head : (b : Bool) → is_path q p ≡ b → (b || is_member is_path left q) ≡ true
        → Contains (map turns_of paths) q.turns.items ⊎ (is_member is_path left q ≡ true)
    by_head true e f = inl (here e)
    by_head false e f = inr f

    by_case : Contains (map turns_of old_paths) q.turns.items ⊎ (is_member is_path old_left q ≡ true)
        → Contains (map turns_of paths) q.turns.items ⊎ (is_member is_path left q ≡ true)
    by_case (inl c) =
        inl (subst (λ xs. Contains xs q.turns.items) (sym appended)
        (Contains-append_left (map turns_of old_paths) (new.turns.items ∷ []) q.turns.items c))
    by_case (inr m) = by_head (is_path q p) refl (subst (λ ps. is_member is_path ps q ≡ true) is m)

-- one more of them is idle
pub each_further : (r : rWorld) (ps : List Path) (n : ℕ) (p : Path) → n < length ps → p ≡ slice_index_or ps n p
    → Each (IsIdle r 0) (map turns_of (take n ps)) → IsIdle r 0 p.turns.items → Each (IsIdle r 0) (map turns_of (take (n + 1) ps))
each_further r ps n p lt is h i =
    subst (λ xs. Each (IsIdle r 0) (map turns_of xs)) (sym (take_more ps n p lt ∙ ap (λ x. take n ps ++ x ∷ []) (sym is)))
    (subst (Each (IsIdle r 0)) (sym (map-append turns_of (take n ps) (p ∷ []))) (each_last (IsIdle r 0) (map turns_of (take n ps)) p.turns.items h i))
