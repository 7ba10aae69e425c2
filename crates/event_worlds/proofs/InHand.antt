-- The events of a task in a hand, as the tables in Rust represent them.
pub use Rattle.shared_lemmas.proofs.Results.{err_passed}
use Rattle.std.proofs.Common.{◌≡◌, ℕ, ◌+◌, ◌-◌, ◌*◌, ◌/◌, ◌≤◌, ◌<◌, List, [], ◌∷◌, ◌++◌, Option, Some, None, refl, sym, ap, ◌∙◌, subst, arith}
use Rattle.std.proofs.lemmas.Bool.{and_parts, le-leb, lt-ltb, leb-true, ltb-true, eqb-true}
use Rattle.std.proofs.lemmas.Option.{none-some, same_Some}
use Rattle.std.specs.Prelude.{true, ◌&&◌, length, slice_index_or, not, nat_eq, nat_le, map, if◌then◌else◌}
use Rattle.std.specs.HashMap.{get}
use Rattle.std.specs.Prelude.{Result, Ok, Err}
use Rattle.std.specs.Result.{IfOk, OnOk, IfErr, OnErr}
use Rattle.types.specs.declared.path.Path.{Path}
use Rattle.effects.specs.Rounds.{needs_of}
use Rattle.task_run.specs.OwnRun.{Action, Step, Spawn, EnterFinish, EndFinish, EndTask, Start, last_action}
use Rattle.task_run.specs.Results.{TaskResult, and_then}
use Rattle.task_run.specs.Runs.{root}
use Rattle.task_run.specs.Translation.{start}
use Rattle.task_run.specs.declared.run.Run.{Run}
use Rattle.task_run.specs.declared.start.Start.{Start as rStart}
use Rattle.task_run.specs.Jobs.{program_of, lists_of, budget_of}
use Rattle.task_run.specs.declared.job.Job.{Job}
use Rattle.event_worlds.specs.Acting.{IsReady, IsSame, DidStep, IsToSpawn, IsShort, DidIssue, DidSpawn, IsHeavy, DidOpen}
use Rattle.event_worlds.specs.Courses.{Course, IsKnown, course_of, IsDoing, IsNext}
use Rattle.event_worlds.specs.Events.{Event, Steps, Replenish, Spawns, Opens, did, issue, may_issue, only_if, new_scope, new_task}
use Rattle.event_worlds.specs.Events.{with_next, in_innermost, by_step, by_replenish, by_spawn, by_open, next_action}
use Rattle.event_worlds.specs.Replay.{does, hands_on}
use Rattle.types.specs.Translation.{is_path}
use Rattle.event_worlds.specs.Shown.{AreBoth, IsTaskOf, IsBookOf, IsDoingThere, is_scope, scope_id, stake, whereabouts}
use Rattle.event_worlds.specs.Shown.{IsTold, Shows, TaskStays, WorldStays, next_world, Becomes, Refuses}
use Rattle.event_worlds.specs.World.{Live, ScopeId, Stake, Scope, World, Whereabouts, Queue, Hand, Parked, task, put_task, scope, put_scope, child_path}
use Rattle.event_worlds.specs.World.{hand_of, in_hand, hand_is_free, is_passed, root_scope, same_path, same_scope}
use Rattle.event_worlds.specs.declared.doing.TaskProgress.{TaskProgress}
use Rattle.event_worlds.specs.declared.doing.TaskProgress.TheVariants.{Starts, Runs, Steps as rSteps, Spawns as rSpawns, Opens as rOpens}
use Rattle.event_worlds.specs.declared.doing.TaskProgress.TheVariants.{AtFinish, AtEnd}
use Rattle.event_worlds.specs.declared.error.EventError.{EventError}
use Rattle.event_worlds.specs.declared.error.EventError.TheVariants.{Illegal}
use Rattle.types.specs.declared.scope_id.ScopeId.{ScopeId as rScopeId}
use Rattle.event_worlds.specs.declared.job.WeightedJob.{WeightedJob}
use Rattle.event_worlds.specs.declared.scope.WorldScope.{WorldScope as rScope}
use Rattle.event_worlds.specs.declared.task.WorldStake.{WorldStake as rStake}
use Rattle.event_worlds.specs.declared.task.WorldTask.{WorldTask as rTask}
use Rattle.event_worlds.specs.declared.world.World.{World as rWorld}
use Rattle.event_worlds.proofs.Lookups.{by_test, task_path, passed-put_scope, passed_opened, scope_id as named_so}
use Rattle.event_worlds.proofs.Numbered.{given_path}
use Rattle.event_worlds.proofs.Outcomes.{starts_are_given}
use Rattle.event_worlds.proofs.Staying.{alike_stays, its_self, refuses_after, refuses_by, stays_put, stays_self, stays_shown}
use Rattle.event_worlds.proofs.Tables.{pick, there, not_there, tasks_put, paths_put, paths_more, scopes_put, led_on}

-- ---- in a hand
doing_there : (j : Job) (q : Whereabouts) (v : ℕ) (c : Course) (d : TaskProgress) → hand_of q ≡ Some v → IsDoingThere j q c d → IsDoing j c d
doing_there j (Queue u) v c d e h = absurd (none-some _ e)
doing_there j (Hand u) v c d e h = h
doing_there j Parked v c d e h = absurd (none-some _ e)

there_doing : (j : Job) (q : Whereabouts) (v : ℕ) (c : Course) (d : TaskProgress) → hand_of q ≡ Some v → IsDoing j c d → IsDoingThere j q c d
there_doing j (Queue u) v c d e h = absurd (none-some _ e)
there_doing j (Hand u) v c d e h = h
there_doing j Parked v c d e h = absurd (none-some _ e)

pub its_doing : (j : Job) (k : rTask) (t : Live) (v : ℕ) → IsTaskOf j k t → hand_of (whereabouts k.place) ≡ Some v
    → IsDoing j (course_of t) k.doing
its_doing j k t v is e = doing_there j t.place v (course_of t) k.doing (ap hand_of (sym is.place) ∙ e) is.doing

-- ---- an event after a look
pub becomes_after : (old mid new : rWorld) (e : Event) → mid.job ≡ old.job → ((w : World) → Shows old w → Shows mid w)
    → Becomes e mid new → Becomes e old new
becomes_after old mid new e same looked b w h =
    subst (λ j. (to : World) × (next_world j e w ≡ Some to) × Shows new to) same (b w (looked w h))

-- ---- the next action
-- the next action, if it is known
abbrev pub ahead_of : List ℕ → TaskProgress → Option Action
ahead_of path (Starts s) = None
ahead_of path (Runs r) = None
ahead_of path (rSteps r) = Some Step
ahead_of path (rSpawns r s) = Some (Spawn (start s))
ahead_of path (rOpens r) = Some EnterFinish
ahead_of path (AtFinish q made) = Some EndFinish
ahead_of path (AtEnd made) = Some (last_action path)

pub known_next : (j : Job) (c : Course) (d : TaskProgress) → IsKnown d → IsDoing j c d
    → (a : Action) × IsNext j c a × (ahead_of c.start.path d ≡ Some a)
known_next j c (Starts s) k h = absurd k
known_next j c (Runs r) k h = absurd k
known_next j c (rSteps r) k h = (Step, h.0, refl)
known_next j c (rSpawns r s) k h = (Spawn (start s), h.0, refl)
known_next j c (rOpens r) k h = (EnterFinish, h.0, refl)
known_next j c (AtFinish q made) k h = (EndFinish, h.0, refl)
known_next j c (AtEnd made) k h = (last_action c.start.path, h.0, refl)

-- the result of an event, by the next action
by_kind : (go : Action → Option World) (d : TaskProgress) (a : Action) (q : List ℕ) → ((r : Run) → d ≡ rSteps r → go Step ≡ None)
    → ((r : Run) (s : rStart) → d ≡ rSpawns r s → go (Spawn (start s)) ≡ None) → ((r : Run) → d ≡ rOpens r → go EnterFinish ≡ None)
    → go EndFinish ≡ None → go EndTask ≡ None → ahead_of q d ≡ Some a → go a ≡ None
by_kind go (Starts s) a q step spawn enter finish end e = absurd (none-some _ e)
by_kind go (Runs r) a q step spawn enter finish end e = absurd (none-some _ e)
by_kind go (rSteps r) a q step spawn enter finish end e = ap go (sym (same_Some _ _ e)) ∙ step r refl
by_kind go (rSpawns r s) a q step spawn enter finish end e = ap go (sym (same_Some _ _ e)) ∙ spawn r s refl
by_kind go (rOpens r) a q step spawn enter finish end e = ap go (sym (same_Some _ _ e)) ∙ enter r refl
by_kind go (AtFinish p made) a q step spawn enter finish end e = ap go (sym (same_Some _ _ e)) ∙ finish
by_kind go (AtEnd made) a [] step spawn enter finish end e = ap go (sym (same_Some _ _ e)) ∙ finish
by_kind go (AtEnd made) a (i ∷ q) step spawn enter finish end e = ap go (sym (same_Some _ _ e)) ∙ end

-- the actions and results of a job's tasks, and the events that are legal for their next actions
module _ (j : WeightedJob) where
  abbrev pub does_in : Start → List (List TaskResult) → List Action
  does_in = does (program_of j.job) (needs_of (program_of j.job)) (budget_of j.job).steps j.w0

  abbrev pub gives_in : Start → List (List TaskResult) → TaskResult
  gives_in = hands_on (program_of j.job) (needs_of (program_of j.job)) (budget_of j.job).steps j.w0

  abbrev pub acting : List ℕ → World → (Live → Action → Option World) → Option World
  acting path w go = with_next j.w0 does_in gives_in path w go

-- ---- a task in a hand, in the world of the definitions
pub record InHand (r : rWorld) (w : World) (path : Path) (worker : ℕ) (k : rTask) : Type 0 where
  pub its : Live
  pub lives : task path.turns.items w.live ≡ Some its
  pub named : its.path ≡ path.turns.items
  pub is : IsTaskOf r.job.job k its
  pub hand : hand_of its.place ≡ Some worker
  pub doing : IsDoing r.job.job (course_of its) k.doing

module _ (r : rWorld) (w : World) (h : Shows r w) (path : Path) where
  pub in_the_hand : (worker : ℕ) (k : rTask) → get is_path r.tasks path ≡ Some k → hand_of (whereabouts k.place) ≡ Some worker
      → InHand r w path worker k
  in_the_hand worker k at hand =
      let t = there (IsTaskOf r.job.job) k (get is_path r.tasks path) (task path.turns.items w.live) (h.tasks path) at in
      record {
        its = t.0;
        lives = t.1;
        named = task_path path.turns.items w.live t.0 t.1;
        is = t.2;
        hand = ap hand_of (sym t.2.place) ∙ hand;
        doing = its_doing r.job.job k t.0 worker t.2 hand;
      }

  -- if no task with this path is in a hand, then none is in the world of the definitions
  pub acts_nowhere : (go : Live → Action → Option World)
      → ((k : rTask) → get is_path r.tasks path ≡ Some k → hand_of (whereabouts k.place) ≡ None)
      → acting r.job path.turns.items w go ≡ None
  acts_nowhere go none = by_table (get is_path r.tasks path) (h.tasks path) none
    where
      by_table : (o : Option rTask) → AreBoth (IsTaskOf r.job.job) o (task path.turns.items w.live)
          → ((k : rTask) → o ≡ Some k → hand_of (whereabouts k.place) ≡ None)
          → acting r.job path.turns.items w go ≡ None
      by_table None both out =
          ap (λ o. and_then o (λ (t : Live). and_then (hand_of t.place) (λ v. and_then (next_action r.job.w0 (does_in r.job) (gives_in r.job) t) (go t))))
          (not_there (IsTaskOf r.job.job) None (task path.turns.items w.live) both refl)
      by_table (Some k) both out =
          let t = there (IsTaskOf r.job.job) k (Some k) (task path.turns.items w.live) both refl in
          ap (λ o. and_then o (λ (t : Live). and_then (hand_of t.place) (λ v. and_then (next_action r.job.w0 (does_in r.job) (gives_in r.job) t) (go t)))) t.1
          ∙ ap (λ o. and_then o (λ (v : ℕ). and_then (next_action r.job.w0 (does_in r.job) (gives_in r.job) t.0) (go t.0)))
          (ap hand_of (sym t.2.place) ∙ out k refl)

  module _ (worker : ℕ) (k : rTask) (x : InHand r w path worker k) where
    -- the event continues with its next action
    pub acts : (a : Action) (go : Live → Action → Option World) → IsNext r.job.job (course_of x.its) a
        → acting r.job path.turns.items w go ≡ go x.its a
    acts a go next =
        ap (λ o. and_then o (λ (t : Live). and_then (hand_of t.place) (λ v. and_then (next_action r.job.w0 (does_in r.job) (gives_in r.job) t) (go t)))) x.lives
        ∙ ap (λ o. and_then o (λ (v : ℕ). and_then (next_action r.job.w0 (does_in r.job) (gives_in r.job) x.its) (go x.its))) x.hand
        ∙ ap (λ o. and_then o (go x.its)) next

    -- an event that needs another next action isn't legal
    pub acts_not : (go : Live → Action → Option World) → IsKnown k.doing
        → ((a : Action) → ahead_of x.its.start.path k.doing ≡ Some a → go x.its a ≡ None)
        → acting r.job path.turns.items w go ≡ None
    acts_not go known not =
        let n = known_next r.job.job (course_of x.its) k.doing known x.doing in
        acts n.0 go n.1 ∙ not n.0 n.2

-- ---- hands
pub free_same : (v : ℕ) (to was : Live) (ts : List Live) → task to.path ts ≡ Some was → to.place ≡ was.place
    → hand_is_free v (put_task to ts) ≡ hand_is_free v ts
free_same v to was [] lives same = absurd (none-some _ lives)
free_same v to was (t ∷ ts) lives same =
    by_test
    (λ b. (if b then Some t else task to.path ts) ≡ Some was
    → hand_is_free v (if b then to ∷ ts else t ∷ put_task to ts) ≡ (not (in_hand t.place v) && hand_is_free v ts))
    (same_path t.path to.path)
    (λ e l. ap (λ q. not (in_hand q v) && hand_is_free v ts) (same ∙ ap (λ (t : Live). t.place) (sym (same_Some t was l))))
    (λ e l. ap (λ b. not (in_hand t.place v) && b) (free_same v to was ts l same))
    lives

-- ---- in Rust
-- the first element of a list is unique
pub one_first : {A : Type 0} (xs ys zs : List A) (x y : A) → xs ≡ x ∷ ys → xs ≡ y ∷ zs → (x ≡ y) × (ys ≡ zs)
one_first xs ys zs x y e f = let g : x ∷ ys ≡ y ∷ zs = sym e ∙ f in (cc g, cc g)

-- the first element of a list that has one
pub first_is : {A : Type 0} (xs : List A) (x : A) → 0 < length xs → x ≡ slice_index_or xs 0 x → (outer : List A) × (xs ≡ x ∷ outer)
first_is [] x some e = absurd (omega (arith, some))
first_is (y ∷ xs) x some e = (xs, ap (λ z. z ∷ xs) (sym e))

pub ready_by : (r : rWorld) (path : Path) (k : rTask) (o : Result ℕ EventError) → get is_path r.tasks path ≡ Some k
    → IfOk o (λ v. hand_of (whereabouts k.place) ≡ Some v) → OnOk o (IsKnown k.doing) → IfOk o (IsReady r path)
ready_by r path k (Ok v) at hand known = record { task = k; at = at; hand = hand; known = known }
ready_by r path k (Err e) at hand known = tt

-- an event of a task that is ready, and stays in the hand
module _ (old mid : rWorld) (path : Path) (worker : ℕ) (g : IsReady mid path worker) (same : mid.job ≡ old.job)
    (still : WorldStays old mid) where
  looked : (w : World) → Shows old w → Shows mid w
  looked = stays_shown old mid still

  abbrev at_hand : (w : World) → Shows mid w → InHand mid w path worker g.task
  at_hand w h = in_the_hand mid w h path worker g.task g.at g.hand

  -- if it becomes another task
  pub shows_put : (w : World) (h : Shows mid w) (e : Event) (new : rTask) (to : Live) (ss : List Scope) (tasks : _) (scopes : _)
      → to.path ≡ path.turns.items → to.place ≡ (at_hand w h).its.place → IsTaskOf mid.job.job new to
      → ((q : Path) → get is_path tasks q ≡ (if is_path path q then Some new else get is_path mid.tasks q))
      → ((q : rScopeId) → AreBoth IsBookOf (get is_scope scopes q) (scope (scope_id q) ss))
      → is_passed (scope root_scope ss) ≡ is_passed (scope root_scope w.scopes)
      → next_world mid.job e w ≡ Some (record { live = put_task to w.live; scopes = ss })
      → Shows (record mid { tasks = tasks; scopes = scopes }) (record { live = put_task to w.live; scopes = ss })
  shows_put w h e new to ss tasks scopes named placed is each kept passed legal =
      let x = at_hand w h in
      record {
        events = h.events ++ e ∷ [];
        led = led_on (program_of mid.job.job) mid.job.w0 (lists_of mid.job.job) (budget_of mid.job.job) e h.events w
            (record { live = put_task to w.live; scopes = ss }) h.led legal;
        tasks = tasks_put mid.job.job (get is_path mid.tasks) (get is_path tasks) path new x.its to w.live h.tasks x.lives named is each;
        paths = paths_put to x.its w.live (ap (λ p. task p w.live) named ∙ x.lives) h.paths;
        scopes = kept;
        hands = λ v. h.hands v ∙ ap not (sym (free_same v to x.its w.live (ap (λ p. task p w.live) named ∙ x.lives) placed));
        told = subst (λ b. IsTold mid.job.job b mid.told) (sym passed) h.told;
      }

  -- another look-up finds the same task
  one_task : (k : rTask) → get is_path mid.tasks path ≡ Some k → g.task ≡ k
  one_task k at = same_Some _ _ (sym g.at ∙ at)

  -- ---- a step
  module _ (k new : rTask) (at : get is_path mid.tasks path ≡ Some k) (next : rWorld)
      (each : (q : Path) → get is_path next.tasks q ≡ (if is_path path q then Some new else get is_path mid.tasks q)) where
    abbrev after_it : rWorld
    after_it = record mid { tasks = next.tasks }

    step_of : DidStep k new → Becomes (Steps path.turns.items) mid after_it
    step_of s w h =
        let x = at_hand w h in
        let e = one_task k at in
        let is : IsTaskOf mid.job.job k x.its = subst (λ z. IsTaskOf mid.job.job z x.its) e x.is in
        let d : IsDoing mid.job.job (course_of x.its) (rSteps s.run)
        = subst (λ z. IsDoing mid.job.job (course_of x.its) z) (ap (λ (z : rTask). z.doing) e ∙ s.was) x.doing in
        let to : Live = did x.its x.its.stakes in
        let now : IsTaskOf mid.job.job new to = subst (λ z. IsTaskOf mid.job.job z to) (sym s.now) (record {
          place = is.place;
          stakes = is.stakes;
          opened = is.opened;
          doing = there_doing mid.job.job x.its.place worker (course_of to) (Runs s.run) x.hand d.1;
        }) in
        let legal : next_world mid.job (Steps path.turns.items) w ≡ Some (record { live = put_task to w.live; scopes = w.scopes })
        = acts mid w h path worker g.task x Step (λ t. by_step mid.job.w0 (does_in mid.job) (gives_in mid.job) t w) d.0 in (
          record { live = put_task to w.live; scopes = w.scopes },
          legal,
          shows_put w h (Steps path.turns.items) new to w.scopes next.tasks mid.scopes x.named refl now each h.scopes refl legal,
        )

    no_step_of : ((r : Run) → k.doing ≡ rSteps r → ⊥) → (w : World) (h : Shows mid w)
        → next_world mid.job (Steps path.turns.items) w ≡ None
    no_step_of none w h =
        let x = at_hand w h in
        acts_not mid w h path worker g.task x (λ t. by_step mid.job.w0 (does_in mid.job) (gives_in mid.job) t w) g.known
        (λ a e. by_kind (by_step mid.job.w0 (does_in mid.job) (gives_in mid.job) x.its w) g.task.doing a x.its.start.path
        (λ r m. absurd (none r (ap (λ (z : rTask). z.doing) (sym (one_task k at)) ∙ m))) (λ r s m. refl) (λ r m. refl) refl refl e)

    pub steps : (o : Result (Unit {0}) EventError) → OnOk o (DidStep k new) → OnErr o (new ≡ k) → IfErr o (λ e. e ≡ Illegal)
        → OnErr o ((r : Run) → k.doing ≡ rSteps r → ⊥)
        → OnOk o (Becomes (Steps path.turns.items) old after_it) × IfErr o (Refuses (Steps path.turns.items) old after_it)
    steps (Ok u) s as_before is none = (becomes_after old mid after_it (Steps path.turns.items) same looked (step_of s), tt)
    steps (Err e) s as_before is none = (
      tt,
      refuses_after old mid after_it (Steps path.turns.items) e still
          (refuses_by mid after_it (Steps path.turns.items) e
          (stays_put mid path k new next.tasks mid.scopes at (subst (λ z. TaskStays mid.job.job k z) (sym as_before) (its_self mid.job.job k)) each
          (λ q. refl))
          (λ m w h. no_step_of none w h)),
    )

  -- ---- more weight
  module _ (next : rWorld) (job : next.job ≡ mid.job) (hands : next.hands ≡ mid.hands) (told : next.told ≡ mid.told) where
    with_tables : record mid { tasks = next.tasks; scopes = next.scopes } ≡ next
    with_tables = sym (λ t. record { job = job t; tasks = next.tasks; scopes = next.scopes; hands = hands t; told = told t })

    replenish_of : (s : IsShort mid path) → DidIssue mid next path s → Becomes (Replenish path.turns.items) mid next
    replenish_of s d w h = subst (λ z. (to : World) × (next_world mid.job (Replenish path.turns.items) w ≡ Some to) × Shows z to) with_tables (
      to,
      legal,
      shows_put w h (Replenish path.turns.items) d.task its_new (put_scope (issue w0 b.0) w.scopes) next.tasks next.scopes x.named refl is d.tasks
          (scopes_put (get is_scope mid.scopes) (get is_scope next.scopes) s.id d.book b.0 (issue w0 b.0) w.scopes h.scopes b.1
          (named_so (scope_id s.id) w.scopes b.0 b.1) (d.issued b.0 b.2) d.scopes) passed legal,
    )
      where
        w0 : ℕ
        w0 = mid.job.w0

        x : InHand mid w path worker g.task
        x = at_hand w h

        e : g.task ≡ s.task
        e = one_task s.task s.at

        b : (z : Scope) × (scope (scope_id s.id) w.scopes ≡ Some z) × IsBookOf s.book z
        b = there IsBookOf s.book (get is_scope mid.scopes s.id) (scope (scope_id s.id) w.scopes) (h.scopes s.id) s.found

        inner : Stake
        inner = stake s.wants.inner

        outer : List Stake
        outer = map stake s.wants.outer

        its_new : Live
        its_new = record x.its { stakes = record inner { weight = 1 + w0 } ∷ outer }

        to : World
        to = record { live = put_task its_new w.live; scopes = put_scope (issue w0 b.0) w.scopes }

        kind : Action
        kind = Spawn (start s.wants.spawns.start)

        next_is : IsNext mid.job.job (course_of x.its) kind
        next_is = (subst (λ d. IsDoing mid.job.job (course_of x.its) d) (ap (λ (z : rTask). z.doing) e ∙ s.wants.spawns.is) x.doing).0

        stakes_are : x.its.stakes ≡ inner ∷ outer
        stakes_are = sym x.is.stakes ∙ ap (λ (z : rTask). map stake z.stakes.items) e ∙ ap (map stake) s.wants.stakes

        passed : is_passed (scope root_scope (put_scope (issue w0 b.0) w.scopes)) ≡ is_passed (scope root_scope w.scopes)
        passed =
            passed-put_scope (issue w0 b.0) b.0 root_scope w.scopes
            (ap (λ i. scope i w.scopes) (named_so (scope_id s.id) w.scopes b.0 b.1) ∙ b.1) refl

        few : may_issue w0 b.0 ≡ true
        few = let few = s.few in let same = b.2.issued in lt-ltb b.0.issued (2147483648 * w0) (omega (arith, few, same))

        legal : next_world mid.job (Replenish path.turns.items) w ≡ Some to
        legal =
            acts mid w h path worker g.task x kind
            (λ t a. in_innermost w0 (does_in mid.job) (gives_in mid.job) t.stakes (λ s outer. by_replenish w0 (does_in mid.job) (gives_in mid.job) t s outer w a)) next_is
            ∙ ap (λ ss. in_innermost w0 (does_in mid.job) (gives_in mid.job) ss (λ s outer. by_replenish w0 (does_in mid.job) (gives_in mid.job) x.its s outer w kind)) stakes_are
            ∙ ap (λ o. and_then o (λ (r : Scope). only_if (nat_eq inner.weight 1 && may_issue w0 r) (Some (record {
              live = put_task its_new w.live;
              scopes = put_scope (issue w0 r) w.scopes;
            })))) (ap (λ i. scope (scope_id i) w.scopes) s.wants.named ∙ b.1)
            ∙ ap (λ n. only_if (nat_eq n 1 && may_issue w0 b.0) (Some to)) s.wants.one
            ∙ ap (λ t. only_if t (Some to)) few

        is : IsTaskOf mid.job.job d.task its_new
        is = record {
          place = ap whereabouts (d.place ∙ ap (λ (z : rTask). z.place) (sym e)) ∙ x.is.place;
          stakes = ap (map stake) d.stakes;
          opened = d.opened ∙ ap (λ (z : rTask). z.opened) (sym e) ∙ x.is.opened;
          doing = there_doing mid.job.job x.its.place worker (course_of x.its) d.task.doing x.hand
              (subst (λ q. IsDoing mid.job.job (course_of x.its) q) (ap (λ (z : rTask). z.doing) e ∙ sym d.doing) x.doing);
        }

    pub replenishes : (s : IsShort mid path) → DidIssue mid next path s → Becomes (Replenish path.turns.items) old next
    replenishes s d = becomes_after old mid next (Replenish path.turns.items) same looked (replenish_of s d)

  -- a task that isn't short gets no weight
  module _ (none : IsShort mid path → ⊥) (w : World) (h : Shows mid w) where
    not_short : next_world mid.job (Replenish path.turns.items) w ≡ None
    not_short =
        acts_not mid w h path worker g.task x (λ t. go t t.stakes) g.known
        (λ a e. by_kind (go x.its x.its.stakes) g.task.doing a x.its.start.path (λ r m. other Step (λ s o. refl) x.its.stakes)
        (λ r s m. spawning r s m g.task.stakes.items refl x.its.stakes x.is.stakes) (λ r m. other EnterFinish (λ s o. refl) x.its.stakes)
        (other EndFinish (λ s o. refl) x.its.stakes) (other EndTask (λ s o. refl) x.its.stakes) e)
      where
        w0 : ℕ
        w0 = mid.job.w0

        x : InHand mid w path worker g.task
        x = at_hand w h

        by : Live → Action → Stake → List Stake → Option World
        by t a s outer = by_replenish w0 (does_in mid.job) (gives_in mid.job) t s outer w a

        go : Live → List Stake → Action → Option World
        go t ss a = in_innermost w0 (does_in mid.job) (gives_in mid.job) ss (by t a)

        other : (a : Action) → ((s : Stake) (o : List Stake) → by x.its a s o ≡ None) → (ss : List Stake) → go x.its ss a ≡ None
        other a none [] = refl
        other a none (s ∷ o) = none s o

        spawning : (r : Run) (c : rStart) → g.task.doing ≡ rSpawns r c → (items : List rStake) → g.task.stakes.items ≡ items
            → (ss : List Stake) → map stake items ≡ ss → go x.its ss (Spawn (start c)) ≡ None
        spawning r c m [] are ss e = ap (λ ss. go x.its ss (Spawn (start c))) (sym e)
        spawning r c m (i ∷ o) are ss e =
            ap (λ ss. go x.its ss (Spawn (start c))) (sym e)
            ∙ by_table (get is_scope mid.scopes i.scope) (h.scopes i.scope) (λ z f. f)
          where
            given : Scope → World
            given z = record {
              live = put_task (record x.its { stakes = record (stake i) { weight = 1 + w0 } ∷ map stake o }) w.live;
              scopes = put_scope (issue w0 z) w.scopes;
            }

            give : Scope → Option World
            give z = only_if (nat_eq i.weight 1 && may_issue w0 z) (Some (given z))

            by_tests : (z : rScope) (book : Scope) → get is_scope mid.scopes i.scope ≡ Some z → IsBookOf z book → give book ≡ None
            by_tests z book at b =
                by_test (λ t. only_if t (Some (given book)) ≡ None) (nat_eq i.weight 1 && may_issue w0 book)
                (λ t. let p = and_parts (nat_eq i.weight 1) (may_issue w0 book) t in
                let few = ltb-true book.issued (2147483648 * w0) p.1 in
                let same = b.issued in
                absurd (none (record {
                  task = g.task;
                  at = g.at;
                  id = i.scope;
                  wants = record {
                    spawns = record { run = r; start = c; is = m };
                    inner = i;
                    outer = o;
                    stakes = are;
                    one = eqb-true i.weight 1 p.0;
                    named = refl;
                  };
                  book = z;
                  found = at;
                  few = omega (arith, few, same);
                })))
                (λ t. refl)

            by_table : (q : Option rScope) → AreBoth IsBookOf q (scope (scope_id i.scope) w.scopes)
                → ((z : rScope) → q ≡ Some z → get is_scope mid.scopes i.scope ≡ Some z)
                → and_then (scope (scope_id i.scope) w.scopes) give ≡ None
            by_table None both at = ap (λ o. and_then o give) (not_there IsBookOf None (scope (scope_id i.scope) w.scopes) both refl)
            by_table (Some z) both at =
                let b = there IsBookOf z (Some z) (scope (scope_id i.scope) w.scopes) both refl in
                ap (λ o. and_then o give) b.1 ∙ by_tests z b.0 (at z refl) b.2

  pub replenishes_not : (IsShort mid path → ⊥) → Refuses (Replenish path.turns.items) old mid Illegal
  replenishes_not none =
      refuses_after old mid mid (Replenish path.turns.items) Illegal still (stays_self mid, λ w h. not_short none w h)

  -- ---- a task is spawned
  module _ (least : 1 ≤ mid.job.w0) (k : rTask) (at : get is_path mid.tasks path ≡ Some k) where
    module _ (new child : rTask) (cpath : Path) (d : DidSpawn k new child cpath worker) (next : rWorld)
        (each : (q : Path) → get is_path next.tasks q
        ≡ (if is_path cpath q then Some child else (if is_path path q then Some new else get is_path mid.tasks q))) where
      spawn_of : Becomes (Spawns path.turns.items) mid (record mid { tasks = next.tasks })
      spawn_of w h = (
        to,
        legal,
        record {
          events = h.events ++ Spawns path.turns.items ∷ [];
          led = led_on (program_of mid.job.job) mid.job.w0 (lists_of mid.job.job) (budget_of mid.job.job) (Spawns path.turns.items) h.events w to h.led legal;
          tasks = tasks_now;
          paths = paths_more kid cpath (put_task its_new w.live) called
              (paths_put its_new x.its w.live (ap (λ p. task p w.live) x.named ∙ x.lives) h.paths);
          scopes = h.scopes;
          hands = λ v. h.hands v ∙ ap not (sym (free_same v its_new x.its w.live (ap (λ p. task p w.live) x.named ∙ x.lives) refl));
          told = h.told;
        },
      )
        where
          x : InHand mid w path worker g.task
          x = at_hand w h

          is : IsTaskOf mid.job.job k x.its
          is = subst (λ z. IsTaskOf mid.job.job z x.its) (one_task k at) x.is

          doing : IsDoing mid.job.job (course_of x.its) (rSpawns d.run d.start)
          doing = subst (λ z. IsDoing mid.job.job (course_of x.its) z) (ap (λ (z : rTask). z.doing) (one_task k at) ∙ d.was) x.doing

          kind : Action
          kind = Spawn (start d.start)

          its_new : Live
          its_new = record (did x.its (record d.inner { weight = d.inner.weight - d.inner.weight / 2 } ∷ d.outer)) { spawned = x.its.spawned + 1 }

          kid : Live
          kid = new_task (child_path x.its.path (x.its.spawned + 1)) (start d.start) (record d.inner { weight = d.inner.weight / 2 }) worker

          to : World
          to = record w { live = kid ∷ put_task its_new w.live }

          begin : Live → Action → Stake → List Stake → Option World
          begin t a s outer = by_spawn mid.job.w0 (does_in mid.job) (gives_in mid.job) t s outer w a

          legal : next_world mid.job (Spawns path.turns.items) w ≡ Some to
          legal =
              acts mid w h path worker g.task x kind (λ t a. in_innermost mid.job.w0 (does_in mid.job) (gives_in mid.job) t.stakes (begin t a)) doing.0
              ∙ ap (λ ss. in_innermost mid.job.w0 (does_in mid.job) (gives_in mid.job) ss (begin x.its kind)) (sym is.stakes ∙ d.stakes)
              ∙ ap (λ o. and_then o (λ (v : ℕ). only_if (nat_le 2 d.inner.weight) (Some (begun_at v)))) x.hand
              ∙ ap (λ b. only_if b (Some to)) (le-leb 2 d.inner.weight d.two)
            where
              begun_at : ℕ → World
              begun_at v = record w {
                live = new_task (child_path x.its.path (x.its.spawned + 1)) (start d.start) (record d.inner { weight = d.inner.weight / 2 }) v
                    ∷ put_task its_new w.live;
              }

          begins : x.its.start.path ≡ path.turns.items
          begins =
              let p = program_of mid.job.job in
              given_path p (needs_of p) (budget_of mid.job.job).steps path.turns.items (root p (lists_of mid.job.job) (budget_of mid.job.job)) x.its.start
              (starts_are_given p (needs_of p) mid.job.w0 least (lists_of mid.job.job) (budget_of mid.job.job) h.events w h.led path.turns.items x.its x.lives)

          called : cpath.turns.items ≡ kid.path
          called = d.named ∙ doing.3 ∙ ap (λ q. child_path q (x.its.spawned + 1)) (begins ∙ sym x.named)

          now : IsTaskOf mid.job.job new its_new
          now = record {
            place = ap whereabouts d.place ∙ is.place;
            stakes = d.kept;
            opened = d.opened ∙ is.opened;
            doing = there_doing mid.job.job x.its.place worker (course_of its_new) new.doing x.hand
                (subst (λ z. IsDoing mid.job.job (course_of its_new) z) (sym d.now) doing.1);
          }

          fresh : IsTaskOf mid.job.job child kid
          fresh = record {
            place = ap whereabouts d.queued;
            stakes = d.given;
            opened = d.opened_none;
            doing = subst (λ z. IsDoing mid.job.job (course_of kid) z) (sym d.begins)
                (record { is = refl; may = doing.2; receipts = refl; done = refl; spawned = refl; opened = refl });
          }

          parents : (q : Path) → AreBoth (IsTaskOf mid.job.job) (if is_path path q then Some new else get is_path mid.tasks q)
              (task q.turns.items (put_task its_new w.live))
          parents = tasks_put mid.job.job (get is_path mid.tasks) (λ q. if is_path path q then Some new else get is_path mid.tasks q) path new x.its its_new
              w.live h.tasks x.lives x.named now (λ q. refl)

          tasks_now : (q : Path) → AreBoth (IsTaskOf mid.job.job) (get is_path next.tasks q) (task q.turns.items to.live)
          tasks_now q =
              subst (λ o. AreBoth (IsTaskOf mid.job.job) o (task q.turns.items to.live)) (sym (each q))
              (subst (λ p. AreBoth (IsTaskOf mid.job.job)
              (if same_path p q.turns.items then Some child else (if is_path path q then Some new else get is_path mid.tasks q))
              (task q.turns.items to.live)) (sym called)
              (pick (IsTaskOf mid.job.job) (same_path kid.path q.turns.items) (Some child) (if is_path path q then Some new else get is_path mid.tasks q)
              (Some kid) (task q.turns.items (put_task its_new w.live)) fresh (parents q)))

      pub spawns : Becomes (Spawns path.turns.items) old (record mid { tasks = next.tasks })
      spawns = becomes_after old mid (record mid { tasks = next.tasks }) (Spawns path.turns.items) same looked spawn_of

    -- a task that isn't about to spawn, or has too little weight
    module _ (none : IsToSpawn k → IsHeavy k → ⊥) (w : World) (h : Shows mid w) where
      no_spawn_of : next_world mid.job (Spawns path.turns.items) w ≡ None
      no_spawn_of =
          acts_not mid w h path worker g.task x (λ t. go t t.stakes) g.known
          (λ a e. by_kind (go x.its x.its.stakes) g.task.doing a x.its.start.path (λ r m. other Step (λ s o. refl) x.its.stakes)
          (λ r s m. spawning r s (ap (λ (z : rTask). z.doing) (sym (one_task k at)) ∙ m) k.stakes.items refl x.its.stakes
          (ap (λ (z : rTask). map stake z.stakes.items) (sym (one_task k at)) ∙ x.is.stakes))
          (λ r m. other EnterFinish (λ s o. refl) x.its.stakes) (other EndFinish (λ s o. refl) x.its.stakes)
          (other EndTask (λ s o. refl) x.its.stakes) e)
        where
          x : InHand mid w path worker g.task
          x = at_hand w h

          begin : Live → Action → Stake → List Stake → Option World
          begin t a s outer = by_spawn mid.job.w0 (does_in mid.job) (gives_in mid.job) t s outer w a

          go : Live → List Stake → Action → Option World
          go t ss a = in_innermost mid.job.w0 (does_in mid.job) (gives_in mid.job) ss (begin t a)

          other : (a : Action) → ((s : Stake) (o : List Stake) → begin x.its a s o ≡ None) → (ss : List Stake) → go x.its ss a ≡ None
          other a out [] = refl
          other a out (s ∷ o) = out s o

          spawning : (r : Run) (c : rStart) → k.doing ≡ rSpawns r c → (items : List rStake) → k.stakes.items ≡ items
              → (ss : List Stake) → map stake items ≡ ss → go x.its ss (Spawn (start c)) ≡ None
          spawning r c m [] are ss e = ap (λ ss. go x.its ss (Spawn (start c))) (sym e)
          spawning r c m (i ∷ o) are ss e =
              ap (λ ss. go x.its ss (Spawn (start c))) (sym e)
              ∙ ap (λ q. and_then q (λ (v : ℕ). only_if (nat_le 2 i.weight) (Some (begun_at v)))) x.hand
              ∙ by_test (λ b. only_if b (Some (begun_at worker)) ≡ None) (nat_le 2 i.weight)
              (λ t. absurd (none (record { run = r; start = c; is = m })
              (record { inner = i; outer = o; stakes = are; two = leb-true 2 i.weight t })))
              (λ t. refl)
            where
              begun_at : ℕ → World
              begun_at v = record w {
                live = new_task (child_path x.its.path (x.its.spawned + 1)) (start c) (record (stake i) { weight = i.weight / 2 }) v
                    ∷ put_task (record (did x.its (record (stake i) { weight = i.weight - i.weight / 2 } ∷ map stake o))
                    { spawned = x.its.spawned + 1 }) w.live;
              }

    pub spawns_not : (new : rTask) → IsSame k new → (next : rWorld)
        → ((q : Path) → get is_path next.tasks q ≡ (if is_path path q then Some new else get is_path mid.tasks q))
        → (x : EventError) → (x ≡ Illegal → IsToSpawn k → IsHeavy k → ⊥)
        → Refuses (Spawns path.turns.items) old (record mid { tasks = next.tasks }) x
    spawns_not new alike next each x none =
        refuses_after old mid (record mid { tasks = next.tasks }) (Spawns path.turns.items) x still
        (refuses_by mid (record mid { tasks = next.tasks }) (Spawns path.turns.items) x
        (stays_put mid path k new next.tasks mid.scopes at (alike_stays mid.job.job k new alike) each (λ q. refl))
        (λ m w h. no_spawn_of (none m) w h))

  -- ---- a finish is started
  module _ (k : rTask) (at : get is_path mid.tasks path ≡ Some k) where
    -- the number of finishes that it has started is less than the steps of its budget
    pub opened_few : (w : World) → Shows mid w → (r : Run) → k.doing ≡ rOpens r → k.opened + 1 ≤ (budget_of mid.job.job).steps
    opened_few w h r was =
        let x = at_hand w h in
        let doing : IsDoing mid.job.job (course_of x.its) (rOpens r)
        = subst (λ z. IsDoing mid.job.job (course_of x.its) z) (ap (λ (z : rTask). z.doing) (one_task k at) ∙ was) x.doing in
        let few = doing.1.come.few in
        let count = ap (λ (z : rTask). z.opened) (one_task k at) in
        let its = x.is.opened in
        omega (arith, few, count, its)

    module _ (new : rTask) (id : rScopeId) (d : DidOpen k new path id mid.job.w0) (book : rScope)
        (first : (i : _) → IsBookOf book (new_scope i mid.job.w0)) (next : rWorld)
        (each : (q : Path) → get is_path next.tasks q ≡ (if is_path path q then Some new else get is_path mid.tasks q))
        (scopes : (q : rScopeId) → get is_scope next.scopes q ≡ (if is_scope id q then Some book else get is_scope mid.scopes q)) where
      open_of : Becomes (Opens path.turns.items) mid (record mid { tasks = next.tasks; scopes = next.scopes })
      open_of w h = (
        record { live = put_task its_new w.live; scopes = new_scope name mid.job.w0 ∷ w.scopes },
        legal,
        shows_put w h (Opens path.turns.items) new its_new (new_scope name mid.job.w0 ∷ w.scopes) next.tasks next.scopes x.named refl now each
            scopes_now (passed_opened name mid.job.w0 x.its.opened w.scopes refl) legal,
      )
        where
          x : InHand mid w path worker g.task
          x = at_hand w h

          is : IsTaskOf mid.job.job k x.its
          is = subst (λ z. IsTaskOf mid.job.job z x.its) (one_task k at) x.is

          doing : IsDoing mid.job.job (course_of x.its) (rOpens d.run)
          doing = subst (λ z. IsDoing mid.job.job (course_of x.its) z) (ap (λ (z : rTask). z.doing) (one_task k at) ∙ d.was) x.doing

          name : ScopeId
          name = record { owner = x.its.path; number = x.its.opened + 1 }

          named : scope_id id ≡ name
          named = λ t. record { owner = owner t; number = number t }
            where
              owner : id.owner.turns.items ≡ x.its.path
              owner = d.owner ∙ sym x.named

              number : id.number ≡ x.its.opened + 1
              number = d.number ∙ ap (λ n. n + 1) is.opened

          its_new : Live
          its_new = record (did x.its (record { scope = name; weight = mid.job.w0 } ∷ x.its.stakes)) { opened = x.its.opened + 1 }

          legal : next_world mid.job (Opens path.turns.items) w
              ≡ Some (record { live = put_task its_new w.live; scopes = new_scope name mid.job.w0 ∷ w.scopes })
          legal = acts mid w h path worker g.task x EnterFinish (λ t. by_open mid.job.w0 (does_in mid.job) (gives_in mid.job) t w) doing.0

          now : IsTaskOf mid.job.job new its_new
          now = record {
            place = ap whereabouts d.place ∙ is.place;
            stakes = d.stakes ∙ ap (λ (i : ScopeId). record { scope = i; weight = mid.job.w0 } ∷ map stake k.stakes.items) named
                ∙ ap (λ ss. record { scope = name; weight = mid.job.w0 } ∷ ss) is.stakes;
            opened = d.opened ∙ ap (λ n. n + 1) is.opened;
            doing = there_doing mid.job.job x.its.place worker (course_of its_new) new.doing x.hand
                (subst (λ z. IsDoing mid.job.job (course_of its_new) z) (sym d.now) doing.1);
          }

          scopes_now : (q : rScopeId) → AreBoth IsBookOf (get is_scope next.scopes q) (scope (scope_id q) (new_scope name mid.job.w0 ∷ w.scopes))
          scopes_now q =
              subst (λ o. AreBoth IsBookOf o (scope (scope_id q) (new_scope name mid.job.w0 ∷ w.scopes))) (sym (scopes q))
              (subst (λ i. AreBoth IsBookOf (if same_scope i (scope_id q) then Some book else get is_scope mid.scopes q)
              (scope (scope_id q) (new_scope name mid.job.w0 ∷ w.scopes))) (sym named)
              (pick IsBookOf (same_scope name (scope_id q)) (Some book) (get is_scope mid.scopes q) (Some (new_scope name mid.job.w0))
              (scope (scope_id q) w.scopes) (first name) (h.scopes q)))

      pub opens : Becomes (Opens path.turns.items) old (record mid { tasks = next.tasks; scopes = next.scopes })
      opens = becomes_after old mid (record mid { tasks = next.tasks; scopes = next.scopes }) (Opens path.turns.items) same looked open_of

    -- a task that isn't about to start a finish
    no_open_of : ((r : Run) → k.doing ≡ rOpens r → ⊥) → (w : World) (h : Shows mid w) → next_world mid.job (Opens path.turns.items) w ≡ None
    no_open_of none w h =
        let x = at_hand w h in
        acts_not mid w h path worker g.task x (λ t. by_open mid.job.w0 (does_in mid.job) (gives_in mid.job) t w) g.known
        (λ a e. by_kind (by_open mid.job.w0 (does_in mid.job) (gives_in mid.job) x.its w) g.task.doing a x.its.start.path (λ r m. refl) (λ r s m. refl)
        (λ r m. absurd (none r (ap (λ (z : rTask). z.doing) (sym (one_task k at)) ∙ m))) refl refl e)

    pub opens_not : (new : rTask) → IsSame k new → (next : rWorld)
        → ((q : Path) → get is_path next.tasks q ≡ (if is_path path q then Some new else get is_path mid.tasks q))
        → ((q : rScopeId) → get is_scope next.scopes q ≡ get is_scope mid.scopes q)
        → (x : EventError) → (x ≡ Illegal → (r : Run) → k.doing ≡ rOpens r → ⊥)
        → Refuses (Opens path.turns.items) old (record mid { tasks = next.tasks; scopes = next.scopes }) x
    opens_not new alike next each kept x none =
        refuses_after old mid (record mid { tasks = next.tasks; scopes = next.scopes }) (Opens path.turns.items) x still
        (refuses_by mid (record mid { tasks = next.tasks; scopes = next.scopes }) (Opens path.turns.items) x
        (stays_put mid path k new next.tasks next.scopes at (alike_stays mid.job.job k new alike) each kept)
        (λ m w h. no_open_of (none m) w h))

-- facts about a task that is short, as one look-up finds it
pub record ItsInner (r : rWorld) (path : Path) (s : IsShort r path) (k : rTask) (inner : rStake) (outer : List rStake) : Type 0 where
  pub task : k ≡ s.task
  pub inner_is : inner ≡ s.wants.inner
  pub outer_is : outer ≡ s.wants.outer
  pub named : inner.scope ≡ s.id
  pub one : inner.weight ≡ 1

pub its_inner : (r : rWorld) (path : Path) (s : IsShort r path) (k : rTask) → get is_path r.tasks path ≡ Some k
    → (inner : rStake) (outer : List rStake) → k.stakes.items ≡ inner ∷ outer → ItsInner r path s k inner outer
its_inner r path s k at inner outer are =
    let e : k ≡ s.task = same_Some _ _ (sym at ∙ s.at) in
    let o = one_first s.task.stakes.items outer s.wants.outer inner s.wants.inner
    (ap (λ (z : rTask). z.stakes.items) (sym e) ∙ are) s.wants.stakes in
    record {
      task = e;
      inner_is = o.0;
      outer_is = o.1;
      named = ap (λ (z : rStake). z.scope) o.0 ∙ s.wants.named;
      one = ap (λ (z : rStake). z.weight) o.0 ∙ s.wants.one;
    }

pub short_book : (r : rWorld) (path : Path) (s : IsShort r path) (id : rScopeId) (book : rScope) → id ≡ s.id
    → get is_scope r.scopes id ≡ Some book → s.book ≡ book
short_book r path s id book same at = same_Some _ _ (sym s.found ∙ ap (get is_scope r.scopes) (sym same) ∙ at)
