-- Each task of a world started with the start given to its path, and does the actions of its own
-- run.
use Rattle.std.proofs.Common.{◌≡◌, ℕ, suc, ◌+◌, ◌-◌, ◌/◌, List, [], ◌∷◌, ◌++◌, length, Option, Some, None, refl}
use Rattle.std.proofs.Common.{sym, ap, ◌∙◌, subst, inl, inr, arith, append_assoc}
use Rattle.std.proofs.lemmas.List.{append-nil, length_push}
use Rattle.std.specs.Prelude.{Bool, true, false, ◌⊎◌, take, slice_get, if◌then◌else◌}
use Rattle.std.proofs.lemmas.Option.{none-some, same_Some}
use Rattle.std.proofs.lemmas.Bool.{and_right}
use Rattle.shared_lemmas.proofs.Truths.{false_true}
use Rattle.types.specs.Code.{Codes, Program}
use Rattle.types.specs.Run.{State, Block}
use Rattle.effects.specs.Needs.{Needs}
use Rattle.task_run.specs.Apart.{is_stopped}
use Rattle.task_run.specs.Results.{TaskResult, none_yet, complete}
use Rattle.task_run.specs.Lists.{Each}
use Rattle.task_run.specs.OwnRun.{Start, Action, Step, Spawn, EnterFinish, EndFinish, EndTask, Own, at_first}
use Rattle.task_run.specs.OwnRun.{result_of, last_action, actions_of, begun_by, beginning, from_receipts, run_by}
use Rattle.task_run.specs.Given.{filled, in_truth, own, given, IsOfOwnRun, IsOwn}
use Rattle.task_run.proofs.SettledResults.{paths_same, IsGiven, given_last}
use Rattle.task_run.proofs.Begun.{begun_by-append, never_waits, run_tells}
use Rattle.task_run.proofs.Lists.{each_last, each_append}
use Rattle.task_run.proofs.TaskRuns.{each_if_given}
use Rattle.event_worlds.specs.World.{same_path, ScopeId, Stake, Live, Scope, World, Whereabouts, Queue, Hand, Parked}
use Rattle.event_worlds.specs.World.{same_scope, child_path, task, put_task, without_task, scope, put_scope, is_parked}
use Rattle.event_worlds.specs.Events.{Event, Take, Steal, Steps, Replenish, Spawns, Opens, Parks, Ends, Pass, Resume}
use Rattle.event_worlds.specs.Events.{issue, give_back, did, new_scope, new_task, next_action}
use Rattle.event_worlds.specs.Replay.{does, hands_on}
use Rattle.event_worlds.proofs.Lookups.{by_test, other_path, task-without_task, gone-without_task, Unique}
use Rattle.event_worlds.proofs.Changes.{IsQuiet, IsAt, IsReplenish, IsSpawn, IsOpen, IsPark, IsEnd, IsPass, IsResume}
use Rattle.event_worlds.proofs.Changes.{Becomes}
use Rattle.event_worlds.proofs.Steps.{put_cases}
use Rattle.event_worlds.proofs.Events.{rebooked}
use Rattle.event_worlds.proofs.Truth.{Rel, Behind, run_in_truth}
use Rattle.event_worlds.proofs.Levels.{depth, depth-append, take_next, take-append, depth_next}
use Rattle.event_worlds.proofs.Direct.{bracketed}
use Rattle.event_worlds.proofs.Numbered.{given_path, begun_at}
use Rattle.shared_lemmas.proofs.Lists.{get-append_left}

module _ (p : Program) (needs : Codes → Needs) (fresh w0 : ℕ) (root : Start) (nameless : root.path ≡ []) where
  -- the actions of a task's own run
  abbrev pub truly : Start → List Action
  truly s = actions_of (own p needs fresh s)

  pub own_is_awake : (s : Start) → (own p needs fresh s).extra.waits ≡ false
  own_is_awake s =
      never_waits s.nest needs (in_truth p needs fresh) (λ st. complete (result_of st) (filled p needs fresh st.extra.pending none_yet)) (λ st. refl) p (Block s.body) (beginning (at_first s.owned) fresh s) refl

  pub truly_is : (s : Start) → truly s ≡ (own p needs fresh s).extra.actions ++ last_action (own p needs fresh s).path ∷ []
  truly_is s =
      let st = own p needs fresh s in
      ap (λ (b : Bool). if b then st.extra.actions else st.extra.actions ++ last_action st.path ∷ []) (and_right (is_stopped st.flow) st.extra.waits (own_is_awake s))

  -- the progress of a task, among the finishes that it has opened
  abbrev pub IsAtLevel : Whereabouts → List Stake → Live → Type 0
  IsAtLevel w [] t = ⊥
  IsAtLevel (Queue w) (s ∷ outer) t = depth 0 (take t.done (truly t.start)) ≡ Some (length outer)
  IsAtLevel (Hand w) (s ∷ outer) t = depth 0 (take t.done (truly t.start)) ≡ Some (length outer)
  IsAtLevel Parked (s ∷ []) t = (run_by p needs fresh t.receipts t.start ≡ own p needs fresh t.start) × (depth 0 (take t.done (truly t.start)) ≡ None)
  IsAtLevel Parked (s ∷ o ∷ more) t = depth 0 (take t.done (truly t.start)) ≡ Some (length more)

  pub record IsOwnTask (t : Live) : Type 0 where
    pub comes : given p needs fresh root t.path ≡ Some t.start
    pub receipts : Each (Each (IsOwn p needs fresh root)) t.receipts
    pub counted : length (begun_by (take t.done (truly t.start))) ≡ t.spawned
    pub level : IsAtLevel t.place t.stakes t

  pub record AllOwn (w : World) : Type 0 where
    pub tasks : (q : List ℕ) (t : Live) → task q w.live ≡ Some t → IsOwnTask t
    pub results : (id : ScopeId) (s : Scope) → scope id w.scopes ≡ Some s → Each (IsOfOwnRun p needs fresh root) s.results

  pub awake_level : (w : Whereabouts) (s : Stake) (outer : List Stake) (t : Live) → is_parked w ≡ false → IsAtLevel w (s ∷ outer) t → depth 0 (take t.done (truly t.start)) ≡ Some (length outer)
  awake_level (Queue w) s outer t e h = h
  awake_level (Hand w) s outer t e h = h
  awake_level Parked s outer t e h = absurd (false_true (sym e))

  level_awake : (w : Whereabouts) (s : Stake) (outer : List Stake) (t : Live) → is_parked w ≡ false → depth 0 (take t.done (truly t.start)) ≡ Some (length outer) → IsAtLevel w (s ∷ outer) t
  level_awake (Queue w) s outer t e h = h
  level_awake (Hand w) s outer t e h = h
  level_awake Parked s outer t e h = absurd (false_true (sym e))

  pub no_level : (w : Whereabouts) (t : Live) → IsAtLevel w [] t → ⊥
  no_level w t h = h

  -- ---- the next action
  abbrev pub nexts : Live → Option Action
  nexts t = next_action w0 (does p needs fresh w0) (hands_on p needs fresh w0) t

  abbrev pub hands : Live → TaskResult
  hands t = hands_on p needs fresh w0 t.start t.receipts

  module _ (t : Live) (h : IsOwnTask t) where
    pub start_path : t.start.path ≡ t.path
    start_path = given_path p needs fresh t.path root t.start h.comes ∙ ap (λ q. q ++ t.path) nameless

    is_given : IsGiven p needs fresh root t.start
    is_given = ap (given p needs fresh root) start_path ∙ h.comes

    pub in_truth_or_behind : Rel (run_by p needs fresh t.receipts t.start) (own p needs fresh t.start)
    in_truth_or_behind = run_in_truth p needs fresh root t.start is_given t.receipts h.receipts

    -- its next action is the next action of its own run
    pub next_in_truth : (a : Action) → nexts t ≡ Some a → slice_get (truly t.start) t.done ≡ Some a
    next_in_truth a e = by_rel in_truth_or_behind
      where
        st : State Own
        st = run_by p needs fresh t.receipts t.start

        behind : Behind (run_by p needs fresh t.receipts t.start) (own p needs fresh t.start) → slice_get (truly t.start) t.done ≡ Some a
        behind i =
            let here = ap (λ (b : Bool). slice_get (if b then (run_by p needs fresh t.receipts t.start).extra.actions else (run_by p needs fresh t.receipts t.start).extra.actions ++ last_action (run_by p needs fresh t.receipts t.start).path ∷ []) t.done) (sym i.waits) ∙ e in
            let further = get-append_left (run_by p needs fresh t.receipts t.start).extra.actions i.prefix.rest t.done a here in
            ap (λ l. slice_get l t.done) (truly_is t.start)
            ∙ get-append_left (own p needs fresh t.start).extra.actions (last_action (own p needs fresh t.start).path ∷ []) t.done a (ap (λ l. slice_get l t.done) i.prefix.is ∙ further)

        by_rel : Rel (run_by p needs fresh t.receipts t.start) (own p needs fresh t.start) → slice_get (truly t.start) t.done ≡ Some a
        by_rel (inl i) = ap (λ st. slice_get (actions_of st) t.done) (sym i) ∙ e
        by_rel (inr i) = behind i

    -- its own run doesn't wait if the next action starts or ends no finish
    pub ends_in_truth : (a : Action) (f : ℕ) → nexts t ≡ Some a → depth 0 (take t.done (truly t.start)) ≡ Some f → (depth f (a ∷ []) ≡ None) → run_by p needs fresh t.receipts t.start ≡ own p needs fresh t.start
    ends_in_truth a f e d n = by_rel in_truth_or_behind
      where
        behind : Behind (run_by p needs fresh t.receipts t.start) (own p needs fresh t.start) → ⊥
        behind i =
            let raw = (run_by p needs fresh t.receipts t.start).extra.actions in
            let here : slice_get raw t.done ≡ Some a = ap (λ (b : Bool). slice_get (if b then (run_by p needs fresh t.receipts t.start).extra.actions else (run_by p needs fresh t.receipts t.start).extra.actions ++ last_action (run_by p needs fresh t.receipts t.start).path ∷ []) t.done) (sym i.waits) ∙ e in
            let b = bracketed p needs fresh (from_receipts t.receipts) t.start in
            let whole : truly t.start ≡ raw ++ (i.prefix.rest ++ last_action (own p needs fresh t.start).path ∷ []) = truly_is t.start ∙ ap (λ l. l ++ last_action (own p needs fresh t.start).path ∷ []) i.prefix.is ∙ append_assoc raw i.prefix.rest _ in
            let first : take t.done (truly t.start) ≡ take t.done raw = ap (take t.done) whole ∙ take-append raw _ t.done a here in
            let g = depth_next 0 raw t.done a b.rise f b.level here (ap (depth 0) (sym first) ∙ d) in
            none-some _ (sym n ∙ g.1)

        by_rel : Rel (run_by p needs fresh t.receipts t.start) (own p needs fresh t.start) → run_by p needs fresh t.receipts t.start ≡ own p needs fresh t.start
        by_rel (inl i) = i
        by_rel (inr i) = absurd (behind i)

    -- one action more
    pub more_done : (a : Action) → nexts t ≡ Some a → take (t.done + 1) (truly t.start) ≡ take t.done (truly t.start) ++ a ∷ []
    more_done a e =
        let k : t.done + 1 ≡ suc t.done = omega arith in
        ap (λ n. take n (truly t.start)) k ∙ take_next (truly t.start) t.done a (next_in_truth a e)

    pub counted_quiet : (a : Action) → nexts t ≡ Some a → begun_by (a ∷ []) ≡ [] → length (begun_by (take (t.done + 1) (truly t.start))) ≡ t.spawned
    counted_quiet a e f =
        ap (λ l. length (begun_by l)) (more_done a e) ∙ ap length (begun_by-append (take t.done (truly t.start)) (a ∷ []) ∙ ap (λ l. begun_by (take t.done (truly t.start)) ++ l) f ∙ append-nil _) ∙ h.counted

    pub counted_spawn : (c : Start) → nexts t ≡ Some (Spawn c) → length (begun_by (take (t.done + 1) (truly t.start))) ≡ t.spawned + 1
    counted_spawn c e =
        ap (λ l. length (begun_by l)) (more_done (Spawn c) e) ∙ ap length (begun_by-append (take t.done (truly t.start)) (Spawn c ∷ [])) ∙ length_push (begun_by (take t.done (truly t.start))) c ∙ ap (λ n. n + 1) h.counted

    pub depth_more : (a : Action) (f : ℕ) → nexts t ≡ Some a → depth 0 (take t.done (truly t.start)) ≡ Some f → depth 0 (take (t.done + 1) (truly t.start)) ≡ depth f (a ∷ [])
    depth_more a f e d = ap (depth 0) (more_done a e) ∙ depth-append 0 (take t.done (truly t.start)) (a ∷ []) f d

    -- its next child is given the start of its next spawn
    pub child_comes : (c : Start) → nexts t ≡ Some (Spawn c) → given p needs fresh root (child_path t.path (t.spawned + 1)) ≡ Some c
    child_comes c e =
        let n : t.spawned + 1 ≡ suc t.spawned = omega arith in
        let at = begun_at (truly t.start) t.done c (next_in_truth (Spawn c) e) in
        let all : begun_by (truly t.start) ≡ begun_by (own p needs fresh t.start).extra.actions =
        ap begun_by (truly_is t.start) ∙ begun_by-append (own p needs fresh t.start).extra.actions _ ∙ ap (λ l. begun_by (own p needs fresh t.start).extra.actions ++ l) (no_last (own p needs fresh t.start).path) ∙ append-nil _ in
        ap (λ k. given p needs fresh root (t.path ++ k ∷ [])) n
        ∙ given_last p needs fresh t.path root t.start (suc t.spawned) h.comes
        ∙ ap (λ l. slice_get l t.spawned) (sym all) ∙ ap (slice_get (begun_by (truly t.start))) (sym h.counted) ∙ at
      where
        no_last : (q : List ℕ) → begun_by (last_action q ∷ []) ≡ []
        no_last [] = refl
        no_last (k ∷ q) = refl

    -- its result has its own path
    pub hands_path : (hands t).path ≡ t.path
    hands_path = (run_tells t.start.nest needs (from_receipts t.receipts) p (Block t.start.body) (beginning (at_first t.start.owned) fresh t.start)).path ∙ start_path

    -- its result at its end is that of its own run, and its path is given the start
    pub hands_own : nexts t ≡ Some EndTask → (f : ℕ) → depth 0 (take t.done (truly t.start)) ≡ Some f → IsOfOwnRun p needs fresh root (hands t)
    hands_own e f d = record {
      start = t.start;
      of_path = ap (given p needs fresh root) hands_path ∙ h.comes;
      is = ap result_of (ends_in_truth EndTask f e d refl);
    }

  -- ---- events
  abbrev Tasks : List Live → Type 0
  Tasks ts = (q : List ℕ) (t : Live) → task q ts ≡ Some t → IsOwnTask t

  abbrev Results : List Scope → Type 0
  Results ss = (id : ScopeId) (s : Scope) → scope id ss ≡ Some s → Each (IsOfOwnRun p needs fresh root) s.results

  tasks_put : (to was : Live) (ts : List Live) → task to.path ts ≡ Some was → Tasks ts → IsOwnTask to → Tasks (put_task to ts)
  tasks_put to was ts e h k q t f = by_place (put_cases to was t q ts e f).here
    where
      by_place : ((to.path ≡ q) × (to ≡ t)) ⊎ ((to.path ≡ q → ⊥) × (task q ts ≡ Some t)) → IsOwnTask t
      by_place (inl (i, j)) = subst IsOwnTask j k
      by_place (inr (i, j)) = h q t j

  results_put : (x : ScopeId) (book to : Scope) (ss : List Scope) → scope x ss ≡ Some book → to.id ≡ x → Results ss → Each (IsOfOwnRun p needs fresh root) to.results → Results (put_scope to ss)
  results_put x book to ss e f h k id s g = by_place (rebooked x book to ss id s e f g)
    where
      by_place : ((x ≡ id) × (to ≡ s)) ⊎ ((same_scope x id ≡ false) × (scope id ss ≡ Some s)) → Each (IsOfOwnRun p needs fresh root) s.results
      by_place (inl (i, j)) = subst (λ (r : Scope). Each (IsOfOwnRun p needs fresh root) r.results) j k
      by_place (inr (i, j)) = h id s j

  all_own : (w : World) → Tasks w.live → Results w.scopes → AllOwn w
  all_own w h k = record { tasks = h; results = k }

  own_tasks : (w : World) → AllOwn w → Tasks w.live
  own_tasks w h = h.tasks

  own_results : (w : World) → AllOwn w → Results w.scopes
  own_results w h = h.results

  module _ (a : World) (k : AllOwn a) where
    quiet_own : (path : List ℕ) (b : World) → IsQuiet nexts path a b → AllOwn b
    quiet_own path b h =
        subst AllOwn h.now (all_own _ (tasks_put h.to h.was a.live found (own_tasks a k) (by_way h.way)) (own_results a k))
      where
        found : task h.to.path a.live ≡ Some h.was
        found = ap (λ r. task r a.live) (h.renamed ∙ h.named) ∙ h.found

        o : IsOwnTask h.was
        o = k.tasks path h.was h.found

        was_level : (ss : List Stake) → h.was.stakes ≡ ss → IsAtLevel h.was.place ss h.was → (n : ℕ) → ((f : ℕ) → depth 0 (take h.was.done (truly h.was.start)) ≡ Some f → depth 0 (take h.to.done (truly h.was.start)) ≡ Some f) → IsAtLevel h.to.place ss h.to
        was_level [] e l n m = absurd l
        was_level (s ∷ outer) e l n m =
            level_awake h.to.place s outer h.to h.awake
            (ap (λ (x : Start). depth 0 (take h.to.done (truly x))) h.start ∙ m (length outer) (awake_level h.was.place s outer h.was h.was_awake l))

        build : length (begun_by (take h.to.done (truly h.was.start))) ≡ h.was.spawned → ((f : ℕ) → depth 0 (take h.was.done (truly h.was.start)) ≡ Some f → depth 0 (take h.to.done (truly h.was.start)) ≡ Some f) → IsOwnTask h.to
        build c m = record {
          comes = ap (given p needs fresh root) h.renamed ∙ (k.tasks path h.was h.found).comes ∙ ap Some (sym h.start);
          receipts = subst (Each (Each (IsOwn p needs fresh root))) (sym h.receipts) (k.tasks path h.was h.found).receipts;
          counted = ap (λ (x : Start). length (begun_by (take h.to.done (truly x)))) h.start ∙ c ∙ sym h.spawned;
          level = subst (λ ss. IsAtLevel h.to.place ss h.to) (sym h.stakes) (was_level h.was.stakes refl (k.tasks path h.was h.found).level 0 m);
        }

        by_way : (h.to.done ≡ h.was.done) ⊎ ((nexts h.was ≡ Some Step) × (h.to.done ≡ h.was.done + 1)) → IsOwnTask h.to
        by_way (inl e) = build (ap (λ n. length (begun_by (take n (truly h.was.start)))) e ∙ (k.tasks path h.was h.found).counted) (λ f d. ap (λ n. depth 0 (take n (truly h.was.start))) e ∙ d)
        by_way (inr (d, e)) =
            build (ap (λ n. length (begun_by (take n (truly h.was.start)))) e ∙ counted_quiet h.was (k.tasks path h.was h.found) Step d refl)
            (λ f g. ap (λ n. depth 0 (take n (truly h.was.start))) e ∙ depth_more h.was (k.tasks path h.was h.found) Step f d g)

    module _ (path : List ℕ) (at : IsAt path a) where
      at_found : task at.was.path a.live ≡ Some at.was
      at_found = ap (λ r. task r a.live) at.named ∙ at.found

      at_own : IsOwnTask at.was
      at_own = k.tasks path at.was at.found

      pub at_level : depth 0 (take at.was.done (truly at.was.start)) ≡ Some (length at.outer)
      at_level = awake_level at.was.place at.inner at.outer at.was at.awake (subst (λ ss. IsAtLevel at.was.place ss at.was) at.stakes at_own.level)

    replenish_own : (path : List ℕ) (b : World) → IsReplenish w0 path a b → AllOwn b
    replenish_own path b h =
        subst AllOwn h.now (all_own _ (tasks_put to h.at.was a.live (at_found path h.at) (own_tasks a k) own_to)
        (results_put h.at.inner.scope h.of.book (issue w0 h.of.book) a.scopes h.of.found h.of.id (own_results a k) (k.results h.at.inner.scope h.of.book h.of.found)))
      where
        to : Live
        to = record h.at.was { stakes = record h.at.inner { weight = 1 + w0 } ∷ h.at.outer }

        own_to : IsOwnTask (record h.at.was { stakes = record h.at.inner { weight = 1 + w0 } ∷ h.at.outer })
        own_to =
            let o = at_own path h.at in
            record {
              comes = o.comes;
              receipts = o.receipts;
              counted = o.counted;
              level = level_awake h.at.was.place (record h.at.inner { weight = 1 + w0 }) h.at.outer (record h.at.was { stakes = record h.at.inner { weight = 1 + w0 } ∷ h.at.outer }) h.at.awake (at_level path h.at);
            }

    spawn_own : (path : List ℕ) (b : World) → IsSpawn nexts path a b → AllOwn b
    spawn_own path b h = subst AllOwn h.now (all_own _ live (own_results a k))
      where
        to : Live
        to = record (did h.at.was (record h.at.inner { weight = h.at.inner.weight - h.at.inner.weight / 2 } ∷ h.at.outer)) { spawned = h.at.was.spawned + 1 }

        kid : Live
        kid = new_task (child_path h.at.was.path (h.at.was.spawned + 1)) h.child (record h.at.inner { weight = h.at.inner.weight / 2 }) h.at.worker

        own_to : IsOwnTask (record (did h.at.was (record h.at.inner { weight = h.at.inner.weight - h.at.inner.weight / 2 } ∷ h.at.outer)) { spawned = h.at.was.spawned + 1 })
        own_to =
            let o = at_own path h.at in
            record {
              comes = o.comes;
              receipts = o.receipts;
              counted = counted_spawn h.at.was o h.child h.next;
              level = level_awake h.at.was.place (record h.at.inner { weight = h.at.inner.weight - h.at.inner.weight / 2 }) h.at.outer
                  (record (did h.at.was (record h.at.inner { weight = h.at.inner.weight - h.at.inner.weight / 2 } ∷ h.at.outer)) { spawned = h.at.was.spawned + 1 }) h.at.awake
                  (depth_more h.at.was o (Spawn h.child) (length h.at.outer) h.next (at_level path h.at));
            }

        own_kid : IsOwnTask (new_task (child_path h.at.was.path (h.at.was.spawned + 1)) h.child (record h.at.inner { weight = h.at.inner.weight / 2 }) h.at.worker)
        own_kid = record { comes = child_comes h.at.was (at_own path h.at) h.child h.next; receipts = tt; counted = refl; level = refl }

        live : Tasks (new_task (child_path h.at.was.path (h.at.was.spawned + 1)) h.child (record h.at.inner { weight = h.at.inner.weight / 2 }) h.at.worker
            ∷ put_task (record (did h.at.was (record h.at.inner { weight = h.at.inner.weight - h.at.inner.weight / 2 } ∷ h.at.outer)) { spawned = h.at.was.spawned + 1 }) a.live)
        live q t f =
            by_test (λ x. (if x then Some (new_task (child_path h.at.was.path (h.at.was.spawned + 1)) h.child (record h.at.inner { weight = h.at.inner.weight / 2 }) h.at.worker)
            else task q (put_task (record (did h.at.was (record h.at.inner { weight = h.at.inner.weight - h.at.inner.weight / 2 } ∷ h.at.outer)) { spawned = h.at.was.spawned + 1 }) a.live)) ≡ Some t → IsOwnTask t)
            (same_path (child_path h.at.was.path (h.at.was.spawned + 1)) q)
            (λ g f. subst IsOwnTask (same_Some _ _ f) own_kid)
            (λ g f. tasks_put (record (did h.at.was (record h.at.inner { weight = h.at.inner.weight - h.at.inner.weight / 2 } ∷ h.at.outer)) { spawned = h.at.was.spawned + 1 })
            h.at.was a.live (at_found path h.at) (own_tasks a k) own_to q t f) f

    open_own : (path : List ℕ) (b : World) → IsOpen nexts w0 path a b → AllOwn b
    open_own path b h = subst AllOwn h.now (all_own _ (tasks_put to h.was a.live found (own_tasks a k) own_to) scopes)
      where
        id : ScopeId
        id = record { owner = h.was.path; number = h.was.opened + 1 }

        to : Live
        to = record (did h.was (record { scope = record { owner = h.was.path; number = h.was.opened + 1 }; weight = w0 } ∷ h.was.stakes)) { opened = h.was.opened + 1 }

        found : task h.was.path a.live ≡ Some h.was
        found = ap (λ r. task r a.live) h.named ∙ h.found

        deeper : (ss : List Stake) → IsAtLevel h.was.place ss h.was → depth 0 (take (h.was.done + 1) (truly h.was.start)) ≡ Some (length ss)
        deeper [] l = absurd l
        deeper (s ∷ outer) l =
            depth_more h.was (k.tasks path h.was h.found) EnterFinish (length outer) h.next (awake_level h.was.place s outer h.was h.awake l)

        own_to : IsOwnTask (record (did h.was (record { scope = record { owner = h.was.path; number = h.was.opened + 1 }; weight = w0 } ∷ h.was.stakes)) { opened = h.was.opened + 1 })
        own_to =
            let o = k.tasks path h.was h.found in
            record {
              comes = o.comes;
              receipts = o.receipts;
              counted = counted_quiet h.was o EnterFinish h.next refl;
              level = level_awake h.was.place (record { scope = record { owner = h.was.path; number = h.was.opened + 1 }; weight = w0 }) h.was.stakes
                  (record (did h.was (record { scope = record { owner = h.was.path; number = h.was.opened + 1 }; weight = w0 } ∷ h.was.stakes)) { opened = h.was.opened + 1 }) h.awake (deeper h.was.stakes o.level);
            }

        scopes : Results (new_scope (record { owner = h.was.path; number = h.was.opened + 1 }) w0 ∷ a.scopes)
        scopes j s f =
            by_test (λ x. (if x then Some (new_scope (record { owner = h.was.path; number = h.was.opened + 1 }) w0) else scope j a.scopes) ≡ Some s → Each (IsOfOwnRun p needs fresh root) s.results)
            (same_scope (record { owner = h.was.path; number = h.was.opened + 1 }) j)
            (λ g f. subst (λ (r : Scope). Each (IsOfOwnRun p needs fresh root) r.results) (same_Some _ _ f) tt)
            (λ g f. k.results j s f) f

    park_own : (path : List ℕ) (b : World) → IsPark nexts path a b → AllOwn b
    park_own path b h =
        subst AllOwn h.now (all_own _ (tasks_put to h.at.was a.live (at_found path h.at) (own_tasks a k) own_to)
        (results_put h.at.inner.scope h.of.book (give_back h.at.inner.weight [] h.of.book) a.scopes h.of.found h.of.id (own_results a k) (each_append (IsOfOwnRun p needs fresh root) h.of.book.results [] (k.results h.at.inner.scope h.of.book h.of.found) tt)))
      where
        to : Live
        to = record (did h.at.was (record h.at.inner { weight = 0 } ∷ h.at.outer)) { place = Parked }

        parked : (outer : List Stake) → depth 0 (take h.at.was.done (truly h.at.was.start)) ≡ Some (length outer)
            → IsAtLevel Parked (record h.at.inner { weight = 0 } ∷ outer) (record (did h.at.was (record h.at.inner { weight = 0 } ∷ h.at.outer)) { place = Parked })
        parked [] d = (ends_in_truth h.at.was (at_own path h.at) EndFinish 0 h.next d refl, depth_more h.at.was (at_own path h.at) EndFinish 0 h.next d)
        parked (o ∷ more) d = depth_more h.at.was (at_own path h.at) EndFinish (suc (length more)) h.next d

        own_to : IsOwnTask (record (did h.at.was (record h.at.inner { weight = 0 } ∷ h.at.outer)) { place = Parked })
        own_to =
            let o = at_own path h.at in
            record { comes = o.comes; receipts = o.receipts; counted = counted_quiet h.at.was o EndFinish h.next refl; level = parked h.at.outer (at_level path h.at) }

    end_own : (unique : Unique a.live) (path : List ℕ) (b : World) → IsEnd nexts hands path a b → AllOwn b
    end_own unique path b h =
        subst AllOwn h.now (all_own _ live
        (results_put h.at.inner.scope h.of.book (give_back h.at.inner.weight (hands h.at.was ∷ []) h.of.book) a.scopes h.of.found h.of.id (own_results a k)
        (each_last (IsOfOwnRun p needs fresh root) h.of.book.results (hands h.at.was) (k.results h.at.inner.scope h.of.book h.of.found)
        (hands_own h.at.was (at_own path h.at) h.next (length h.at.outer) (at_level path h.at)))))
      where
        live : Tasks (without_task h.at.was.path a.live)
        live q t f =
            by_test (λ x. IsOwnTask t) (same_path h.at.was.path q)
            (λ g. absurd (none-some _ (sym (gone-without_task h.at.was.path a.live unique) ∙ ap (λ r. task r (without_task h.at.was.path a.live)) (paths_same h.at.was.path q g) ∙ f)))
            (λ g. k.tasks q t (sym (task-without_task h.at.was.path q a.live (other_path g)) ∙ f))

    pass_own : (id : ScopeId) (b : World) → IsPass id a b → AllOwn b
    pass_own id b h =
        subst AllOwn h.now (all_own _ (own_tasks a k) (results_put id h.book (record h.book { passed = true }) a.scopes h.found h.same (own_results a k) (k.results id h.book h.found)))

    resume_own : (path : List ℕ) (b : World) → IsResume path a b → AllOwn b
    resume_own path b h = subst AllOwn h.now (all_own _ (tasks_put to h.was a.live found (own_tasks a k) own_to) (own_results a k))
      where
        to : Live
        to = record h.was { receipts = h.was.receipts ++ h.of.book.results ∷ []; stakes = h.next ∷ h.outer; place = Hand h.worker }

        found : task h.was.path a.live ≡ Some h.was
        found = ap (λ r. task r a.live) h.named ∙ h.found

        parked_level : (w : Whereabouts) → is_parked w ≡ true → IsAtLevel w (h.inner ∷ h.next ∷ h.outer) h.was → depth 0 (take h.was.done (truly h.was.start)) ≡ Some (length h.outer)
        parked_level (Queue w) e l = absurd (false_true e)
        parked_level (Hand w) e l = absurd (false_true e)
        parked_level Parked e l = l

        own_to : IsOwnTask (record h.was { receipts = h.was.receipts ++ h.of.book.results ∷ []; stakes = h.next ∷ h.outer; place = Hand h.worker })
        own_to =
            let o = k.tasks path h.was h.found in
            record {
              comes = o.comes;
              receipts = each_last (Each (IsOwn p needs fresh root)) h.was.receipts h.of.book.results o.receipts
                  (each_if_given p needs fresh root h.of.book.results (k.results h.inner.scope h.of.book h.of.found));
              counted = o.counted;
              level = parked_level h.was.place h.parked (subst (λ ss. IsAtLevel h.was.place ss h.was) h.stakes o.level);
            }

  pub event_own : (e : Event) (a b : World) → Unique a.live → AllOwn a → Becomes nexts hands w0 e a b → AllOwn b
  event_own (Take w q) a b u k h = quiet_own a k q b h
  event_own (Steal w f q) a b u k h = quiet_own a k q b h
  event_own (Steps q) a b u k h = quiet_own a k q b h
  event_own (Replenish q) a b u k h = replenish_own a k q b h
  event_own (Spawns q) a b u k h = spawn_own a k q b h
  event_own (Opens q) a b u k h = open_own a k q b h
  event_own (Parks q) a b u k h = park_own a k q b h
  event_own (Ends q) a b u k h = end_own a k u q b h
  event_own (Pass id) a b u k h = pass_own a k id b h
  event_own (Resume w q z) a b u k h = resume_own a k q b h
