-- Which events are legal, as the tables and the kinds of next actions show.
use Rattle.std.proofs.Common.{◌≡◌, ℕ, ◌+◌, ◌-◌, ◌*◌, ◌/◌, length, List, [], ◌∷◌, ◌++◌, Option, Some, None, refl, sym, ap, ◌∙◌, subst, arith}
use Rattle.std.proofs.lemmas.Bool.{and_parts, le-leb, lt-ltb, leb-true, ltb-true, eqb-true, ne_eqb, not-false}
use Rattle.std.proofs.lemmas.Option.{same_Some}
use Rattle.std.specs.Prelude.{Bool, true, false, ◌&&◌, not, nat_eq, nat_le, map}
use Rattle.std.specs.HashMap.{get}
use Rattle.std.specs.Prelude.{Result, Ok, Err, IfErr}
use Rattle.std.specs.HashSet.{contains}
use Rattle.shared_lemmas.proofs.Truths.{false_true, true_false}
use Rattle.types.specs.declared.path.Path.{Path}
use Rattle.types.specs.Translation.{is_path}
use Rattle.effects.specs.Rounds.{needs_of}
use Rattle.task_run.specs.OwnRun.{Action, Step, Spawn, EnterFinish, EndFinish, EndTask, Start}
use Rattle.task_run.specs.Results.{TaskResult, and_then}
use Rattle.task_run.specs.Runs.{root}
use Rattle.task_run.specs.Jobs.{program_of, lists_of, budget_of}
use Rattle.event_worlds.specs.Courses.{IsNext, course_of}
use Rattle.event_worlds.specs.Ending.{MayLeave, StandsAt, is_root}
use Rattle.event_worlds.specs.Events.{Event, Take, Steal, Steps, Replenish, Spawns, Opens, Parks, Ends, Resume}
use Rattle.event_worlds.specs.Events.{by_step, by_replenish, by_spawn, by_open, by_park, by_end, in_innermost, may_issue, only_if, owns, moved}
use Rattle.event_worlds.specs.Events.{did, new_scope, new_task, issue, give_back}
use Rattle.event_worlds.specs.Jobs.{IsWeightedJob}
use Rattle.event_worlds.specs.NextKinds.{HasHalf, HasNext, IsNextAt, IsNowhere, IsOfKind, NeedsMore, StepsInHand, ends_by, is_open, is_spawn, is_step, waits_by}
use Rattle.event_worlds.specs.Shown.{AreBoth, IsBookOf, IsLegal, IsTaskOf, Shows, WorldStays, is_scope, next_world, scope_id, stake, whereabouts}
use Rattle.event_worlds.specs.World.{Live, Stake, Scope, ScopeId, World, Queue, Hand, Parked, task, scope, put_task, put_scope, child_path, without_task}
use Rattle.event_worlds.specs.World.{hand_is_free, in_queue, is_parked}
use Rattle.event_worlds.specs.declared.next.NextKind.{NextKind}
use Rattle.event_worlds.specs.declared.next.NextKind.TheVariants.{Step as ToStep, Spawn as ToSpawn, Open as ToOpen, Finish as ToFinish, End as ToEnd}
use Rattle.event_worlds.specs.declared.scope.WorldScope.{WorldScope as rScope}
use Rattle.event_worlds.specs.declared.task.WorldStake.{WorldStake as rStake}
use Rattle.event_worlds.specs.declared.task.WorldTask.{WorldTask as rTask}
use Rattle.event_worlds.specs.declared.world.World.{World as rWorld}
use Rattle.event_worlds.proofs.AtEnds.{stands_at}
use Rattle.event_worlds.proofs.Behind.{leave_with}
use Rattle.event_worlds.proofs.GoingOn.{ends_are_own}
use Rattle.event_worlds.proofs.InHand.{InHand, acting, acts, acts_nowhere, does_in, gives_in, in_the_hand}
use Rattle.event_worlds.proofs.Lookups.{by_test}
use Rattle.event_worlds.proofs.Moves.{found}
use Rattle.event_worlds.proofs.Numbered.{given_path}
use Rattle.event_worlds.proofs.Outcomes.{starts_are_given}
use Rattle.event_worlds.proofs.Staying.{stays_shown}
use Rattle.event_worlds.proofs.Tables.{not_there, there}

-- ---- kinds
-- the result of an event, by the kind of the next action
by_kind : (go : Action → Option World) (q : List ℕ) (k : NextKind) (a : Action) → IsOfKind q k a
    → (is_step k ≡ true → go Step ≡ None) → (is_spawn k ≡ true → (s : Start) → go (Spawn s) ≡ None)
    → (is_open k ≡ true → go EnterFinish ≡ None) → (waits_by (is_root q) k ≡ true → go EndFinish ≡ None)
    → (ends_by (is_root q) k ≡ true → go EndTask ≡ None) → go a ≡ None
by_kind go q ToStep a of step spawn enter wait end = ap go of ∙ step refl
by_kind go q ToSpawn a of step spawn enter wait end = ap go of.1 ∙ spawn refl of.0
by_kind go q ToOpen a of step spawn enter wait end = ap go of ∙ enter refl
by_kind go q ToFinish a of step spawn enter wait end = ap go of ∙ wait refl
by_kind go [] ToEnd a of step spawn enter wait end = ap go of ∙ wait refl
by_kind go (i ∷ q) ToEnd a of step spawn enter wait end = ap go of ∙ end refl

step_of : (q : List ℕ) (k : NextKind) (a : Action) → IsOfKind q k a → is_step k ≡ true → a ≡ Step
step_of q ToStep a of e = of
step_of q k a of e = false_true e

spawn_of : (q : List ℕ) (k : NextKind) (a : Action) → IsOfKind q k a → is_spawn k ≡ true → (s : Start) × (a ≡ Spawn s)
spawn_of q ToSpawn a of e = of
spawn_of q k a of e = false_true e

open_of : (q : List ℕ) (k : NextKind) (a : Action) → IsOfKind q k a → is_open k ≡ true → a ≡ EnterFinish
open_of q ToOpen a of e = of
open_of q k a of e = false_true e

finish_of : (q : List ℕ) (k : NextKind) (a : Action) → IsOfKind q k a → waits_by (is_root q) k ≡ true → a ≡ EndFinish
finish_of q ToFinish a of e = of
finish_of [] ToEnd a of e = of
finish_of (i ∷ q) ToEnd a of e = false_true e
finish_of q k a of e = false_true e

end_of : (q : List ℕ) (k : NextKind) (a : Action) → IsOfKind q k a → ends_by (is_root q) k ≡ true → a ≡ EndTask
end_of (i ∷ q) ToEnd a of e = of
end_of [] ToEnd a of e = false_true e
end_of q k a of e = false_true e

-- the root's path has no turns
pub root_is : (path : Path) → nat_eq path.turns.len 0 ≡ is_root path.turns.items
root_is path = ap (λ n. nat_eq n 0) path.turns.ok.0 ∙ by_items path.turns.items
  where
    by_items : (q : List ℕ) → nat_eq (length q) 0 ≡ is_root q
    by_items [] = refl
    by_items (i ∷ q) = ne_eqb (length (i ∷ q)) 0 (λ e. absurd (omega (arith, e)))

no_truth : {b : Bool} {A : Type 0} → b ≡ false → b ≡ true → A
no_truth e is = absurd (true_false (sym is ∙ e))

-- ---- a task in a hand
module _ (r : rWorld) (ok : IsWeightedJob r.job) (w : World) (h : Shows r w) (path : Path) where
  abbrev does_so : Start → List (List TaskResult) → List Action
  does_so = does_in r.job

  abbrev hands_so : Start → List (List TaskResult) → TaskResult
  hands_so = gives_in r.job

  abbrev inside : (Live → Stake → List Stake → World → Action → Option World) → Live → Action → Option World
  inside go t a = in_innermost r.job.w0 does_so hands_so t.stakes (λ s outer. go t s outer w a)

  -- without a task in a hand, none of its events is legal
  module _ (none : IsNowhere r path) where
    pub step_nowhere : next_world r.job (Steps path.turns.items) w ≡ None
    step_nowhere = acts_nowhere r w h path (λ t. by_step r.job.w0 does_so hands_so t w) none

    pub open_nowhere : next_world r.job (Opens path.turns.items) w ≡ None
    open_nowhere = acts_nowhere r w h path (λ t. by_open r.job.w0 does_so hands_so t w) none

    pub spawn_nowhere : next_world r.job (Spawns path.turns.items) w ≡ None
    spawn_nowhere = acts_nowhere r w h path (inside (by_spawn r.job.w0 does_so hands_so)) none

    pub replenish_nowhere : next_world r.job (Replenish path.turns.items) w ≡ None
    replenish_nowhere = acts_nowhere r w h path (inside (by_replenish r.job.w0 does_so hands_so)) none

    pub park_nowhere : next_world r.job (Parks path.turns.items) w ≡ None
    park_nowhere = acts_nowhere r w h path (inside (by_park r.job.w0 does_so hands_so)) none

    pub end_nowhere : next_world r.job (Ends path.turns.items) w ≡ None
    end_nowhere = acts_nowhere r w h path (inside (by_end r.job.w0 does_so hands_so)) none

  none_inside : (go : Live → Stake → List Stake → World → Action → Option World) (t : Live) (a : Action)
      → ((s : Stake) (outer : List Stake) → go t s outer w a ≡ None) → inside go t a ≡ None
  none_inside go t a none = by_stakes t.stakes
    where
      by_stakes : (ss : List Stake) → in_innermost r.job.w0 does_so hands_so ss (λ s outer. go t s outer w a) ≡ None
      by_stakes [] = refl
      by_stakes (s ∷ outer) = none s outer

  module _ (kind : NextKind) (n : IsNextAt r path kind) where
    x : InHand r w path n.worker n.task
    x = in_the_hand r w h path n.worker n.task n.at n.hand

    its_next : HasNext r.job.job (course_of x.its) kind
    its_next = n.next (course_of x.its) x.doing

    begins : x.its.start.path ≡ path.turns.items
    begins =
        let p = program_of r.job.job in
        given_path p (needs_of p) (budget_of r.job.job).steps path.turns.items (root p (lists_of r.job.job) (budget_of r.job.job)) x.its.start
        (starts_are_given p (needs_of p) r.job.w0 ok.least (lists_of r.job.job) (budget_of r.job.job) h.events w h.led path.turns.items x.its x.lives)

    of_kind : IsOfKind path.turns.items kind its_next.action
    of_kind = subst (λ q. IsOfKind q kind its_next.action) begins its_next.of

    acts_so : (go : Live → Action → Option World) → acting r.job path.turns.items w go ≡ go x.its its_next.action
    acts_so go = acts r w h path n.worker n.task x its_next.action go its_next.next

    -- with another next action
    acts_as : (go : Live → Action → Option World) (a : Action) → its_next.action ≡ a → acting r.job path.turns.items w go ≡ go x.its a
    acts_as go a is = acts_so go ∙ ap (go x.its) is

    acts_by : (go : Live → Action → Option World) → (is_step kind ≡ true → go x.its Step ≡ None)
        → (is_spawn kind ≡ true → (s : Start) → go x.its (Spawn s) ≡ None) → (is_open kind ≡ true → go x.its EnterFinish ≡ None)
        → (waits_by (is_root path.turns.items) kind ≡ true → go x.its EndFinish ≡ None)
        → (ends_by (is_root path.turns.items) kind ≡ true → go x.its EndTask ≡ None) → acting r.job path.turns.items w go ≡ None
    acts_by go step spawn enter wait end =
        acts_so go ∙ by_kind (go x.its) path.turns.items kind its_next.action of_kind step spawn enter wait end

    -- ---- a step
    pub step_legal : is_step kind ≡ true → (to : World) × (next_world r.job (Steps path.turns.items) w ≡ Some to)
    step_legal e =
        (record w { live = put_task (did x.its x.its.stakes) w.live }, acts_as (λ t. by_step r.job.w0 does_so hands_so t w) Step (step_of path.turns.items kind its_next.action of_kind e))

    pub step_illegal : is_step kind ≡ false → next_world r.job (Steps path.turns.items) w ≡ None
    step_illegal e =
        acts_by (λ t. by_step r.job.w0 does_so hands_so t w) (λ yes. no_truth e yes) (λ yes s. refl) (λ yes. refl) (λ yes. refl) (λ yes. refl)

    -- ---- a finish
    pub open_legal : is_open kind ≡ true → (to : World) × (next_world r.job (Opens path.turns.items) w ≡ Some to)
    open_legal e =
        let id : ScopeId = record { owner = x.its.path; number = x.its.opened + 1 } in
        let first : Stake = record { scope = id; weight = r.job.w0 } in (
          record {
            live = put_task (record (did x.its (first ∷ x.its.stakes)) { opened = x.its.opened + 1 }) w.live;
            scopes = new_scope id r.job.w0 ∷ w.scopes;
          },
          acts_as (λ t. by_open r.job.w0 does_so hands_so t w) EnterFinish (open_of path.turns.items kind its_next.action of_kind e),
        )

    pub open_illegal : is_open kind ≡ false → next_world r.job (Opens path.turns.items) w ≡ None
    open_illegal e =
        acts_by (λ t. by_open r.job.w0 does_so hands_so t w) (λ yes. refl) (λ yes s. refl) (λ yes. no_truth e yes) (λ yes. refl) (λ yes. refl)

    -- ---- the stakes
    stakes_are : (k : rTask) (inner : rStake) (outer : List rStake) → get is_path r.tasks path ≡ Some k → k.stakes.items ≡ inner ∷ outer
        → x.its.stakes ≡ stake inner ∷ map stake outer
    stakes_are k inner outer at items =
        sym x.is.stakes ∙ ap (λ (z : rTask). map stake z.stakes.items) (same_Some _ _ (sym n.at ∙ at)) ∙ ap (map stake) items

    -- an event that needs the innermost scope
    goes_in : (go : Live → Stake → List Stake → World → Action → Option World) (a : Action) (s : Stake) (outer : List Stake)
        → its_next.action ≡ a → x.its.stakes ≡ s ∷ outer → acting r.job path.turns.items w (inside go) ≡ go x.its s outer w a
    goes_in go a s outer is are =
        acts_as (inside go) a is
        ∙ ap (λ ss. in_innermost r.job.w0 does_so hands_so ss (λ s outer. go x.its s outer w a)) are

    -- ---- an async
    pub spawn_legal : is_spawn kind ≡ true → HasHalf r path → (to : World) × (next_world r.job (Spawns path.turns.items) w ≡ Some to)
    spawn_legal e half =
        let s = spawn_of path.turns.items kind its_next.action of_kind e in
        let inner = stake half.inner in
        let outer = map stake half.outer in
        let kept : Stake = record inner { weight = inner.weight - inner.weight / 2 } in
        let to = λ (v : ℕ). (record w {
          live = new_task (child_path x.its.path (x.its.spawned + 1)) s.0 (record inner { weight = inner.weight / 2 }) v
              ∷ put_task (record (did x.its (kept ∷ outer)) { spawned = x.its.spawned + 1 }) w.live;
        }) in (
          to n.worker,
          goes_in (by_spawn r.job.w0 does_so hands_so) (Spawn s.0) inner outer s.1 (stakes_are half.task half.inner half.outer half.at half.stakes)
              ∙ ap (λ o. and_then o (λ (v : ℕ). only_if (nat_le 2 inner.weight) (Some (to v)))) x.hand
              ∙ ap (λ b. only_if b (Some (to n.worker))) (le-leb 2 inner.weight half.two),
        )

    pub spawn_illegal : is_spawn kind ≡ false → next_world r.job (Spawns path.turns.items) w ≡ None
    spawn_illegal e =
        let none = none_inside (by_spawn r.job.w0 does_so hands_so) x.its in
        acts_by (inside (by_spawn r.job.w0 does_so hands_so)) (λ yes. none Step (λ s o. refl)) (λ yes s. no_truth e yes)
        (λ yes. none EnterFinish (λ s o. refl)) (λ yes. none EndFinish (λ s o. refl)) (λ yes. none EndTask (λ s o. refl))

    pub spawn_light : (HasHalf r path → ⊥) → next_world r.job (Spawns path.turns.items) w ≡ None
    spawn_light light =
        let none = none_inside (by_spawn r.job.w0 does_so hands_so) x.its in
        acts_by (inside (by_spawn r.job.w0 does_so hands_so)) (λ yes. none Step (λ s o. refl))
        (λ yes c. by_items c n.task.stakes.items refl x.its.stakes x.is.stakes)
        (λ yes. none EnterFinish (λ s o. refl)) (λ yes. none EndFinish (λ s o. refl)) (λ yes. none EndTask (λ s o. refl))
      where
        go : Start → List Stake → Option World
        go c ss = in_innermost r.job.w0 does_so hands_so ss (λ s outer. by_spawn r.job.w0 does_so hands_so x.its s outer w (Spawn c))

        by_items : (c : Start) (items : List rStake) → n.task.stakes.items ≡ items → (ss : List Stake) → map stake n.task.stakes.items ≡ ss → go c ss ≡ None
        by_items c [] are ss e = ap (go c) (sym e ∙ ap (map stake) are)
        by_items c (i ∷ o) are ss e =
            ap (go c) (sym e ∙ ap (map stake) are)
            ∙ ap (λ v. and_then v (λ (v : ℕ). only_if (nat_le 2 i.weight) (Some (to v)))) x.hand
            ∙ by_test (λ b. only_if b (Some (to n.worker)) ≡ None) (nat_le 2 i.weight)
            (λ t. absurd (light (record { task = n.task; at = n.at; inner = i; outer = o; stakes = are; two = leb-true 2 i.weight t })))
            (λ t. refl)
          where
            kept : Stake
            kept = record (stake i) { weight = i.weight - i.weight / 2 }

            to : ℕ → World
            to v = record w {
              live = new_task (child_path x.its.path (x.its.spawned + 1)) c (record (stake i) { weight = i.weight / 2 }) v
                  ∷ put_task (record (did x.its (kept ∷ map stake o)) { spawned = x.its.spawned + 1 }) w.live;
            }

    -- ---- more weight
    pub replenish_legal : is_spawn kind ≡ true → NeedsMore r path → (to : World) × (next_world r.job (Replenish path.turns.items) w ≡ Some to)
    replenish_legal e m = (
      to b.0,
      goes_in (by_replenish r.job.w0 does_so hands_so) (Spawn s.0) inner outer s.1 (stakes_are m.task m.inner m.outer m.at m.stakes)
          ∙ ap (λ o. and_then o (λ (z : Scope). only_if (nat_eq inner.weight 1 && may_issue r.job.w0 z) (Some (to z)))) b.1
          ∙ ap (λ n. only_if (nat_eq n 1 && may_issue r.job.w0 b.0) (Some (to b.0))) m.one
          ∙ ap (λ t. only_if t (Some (to b.0))) few,
    )
      where
        s : (c : Start) × (its_next.action ≡ Spawn c)
        s = spawn_of path.turns.items kind its_next.action of_kind e

        inner : Stake
        inner = stake m.inner

        outer : List Stake
        outer = map stake m.outer

        b : (z : Scope) × (scope (scope_id m.inner.scope) w.scopes ≡ Some z) × IsBookOf m.book z
        b = there IsBookOf m.book (get is_scope r.scopes m.inner.scope) (scope (scope_id m.inner.scope) w.scopes) (h.scopes m.inner.scope) m.found

        to : Scope → World
        to z = record {
          live = put_task (record x.its { stakes = record inner { weight = 1 + r.job.w0 } ∷ outer }) w.live;
          scopes = put_scope (issue r.job.w0 z) w.scopes;
        }

        few : may_issue r.job.w0 b.0 ≡ true
        few = let few = m.few in let same = b.2.issued in lt-ltb b.0.issued (2147483648 * r.job.w0) (omega (arith, few, same))

    pub replenish_illegal : is_spawn kind ≡ false → next_world r.job (Replenish path.turns.items) w ≡ None
    replenish_illegal e =
        let none = none_inside (by_replenish r.job.w0 does_so hands_so) x.its in
        acts_by (inside (by_replenish r.job.w0 does_so hands_so)) (λ yes. none Step (λ s o. refl)) (λ yes s. no_truth e yes)
        (λ yes. none EnterFinish (λ s o. refl)) (λ yes. none EndFinish (λ s o. refl)) (λ yes. none EndTask (λ s o. refl))

    pub replenish_enough : (NeedsMore r path → ⊥) → next_world r.job (Replenish path.turns.items) w ≡ None
    replenish_enough enough =
        let none = none_inside (by_replenish r.job.w0 does_so hands_so) x.its in
        acts_by (inside (by_replenish r.job.w0 does_so hands_so)) (λ yes. none Step (λ s o. refl))
        (λ yes c. by_items c n.task.stakes.items refl x.its.stakes x.is.stakes)
        (λ yes. none EnterFinish (λ s o. refl)) (λ yes. none EndFinish (λ s o. refl)) (λ yes. none EndTask (λ s o. refl))
      where
        go : Start → List Stake → Option World
        go c ss = in_innermost r.job.w0 does_so hands_so ss (λ s outer. by_replenish r.job.w0 does_so hands_so x.its s outer w (Spawn c))

        by_items : (c : Start) (items : List rStake) → n.task.stakes.items ≡ items → (ss : List Stake) → map stake n.task.stakes.items ≡ ss → go c ss ≡ None
        by_items c [] are ss e = ap (go c) (sym e ∙ ap (map stake) are)
        by_items c (i ∷ o) are ss e =
            ap (go c) (sym e ∙ ap (map stake) are)
            ∙ by_table (get is_scope r.scopes i.scope) (h.scopes i.scope) (λ z f. f)
          where
            given : Scope → World
            given z = record {
              live = put_task (record x.its { stakes = record (stake i) { weight = 1 + r.job.w0 } ∷ map stake o }) w.live;
              scopes = put_scope (issue r.job.w0 z) w.scopes;
            }

            give : Scope → Option World
            give z = only_if (nat_eq i.weight 1 && may_issue r.job.w0 z) (Some (given z))

            by_tests : (z : rScope) (book : Scope) → get is_scope r.scopes i.scope ≡ Some z → IsBookOf z book → give book ≡ None
            by_tests z book at b =
                by_test (λ t. only_if t (Some (given book)) ≡ None) (nat_eq i.weight 1 && may_issue r.job.w0 book)
                (λ t. let p = and_parts (nat_eq i.weight 1) (may_issue r.job.w0 book) t in
                let few = ltb-true book.issued (2147483648 * r.job.w0) p.1 in
                let same = b.issued in
                absurd (enough (record {
                  task = n.task;
                  at = n.at;
                  inner = i;
                  outer = o;
                  stakes = are;
                  one = eqb-true i.weight 1 p.0;
                  book = z;
                  found = at;
                  few = omega (arith, few, same);
                })))
                (λ t. refl)

            by_table : (q : Option rScope) → AreBoth IsBookOf q (scope (scope_id i.scope) w.scopes)
                → ((z : rScope) → q ≡ Some z → get is_scope r.scopes i.scope ≡ Some z)
                → and_then (scope (scope_id i.scope) w.scopes) give ≡ None
            by_table None both at = ap (λ o. and_then o give) (not_there IsBookOf None (scope (scope_id i.scope) w.scopes) both refl)
            by_table (Some z) both at =
                let b = there IsBookOf z (Some z) (scope (scope_id i.scope) w.scopes) both refl in
                ap (λ o. and_then o give) b.1 ∙ by_tests z b.0 (at z refl) b.2

    -- ---- the end of a finish, and of a task
    a : StandsAt r path
    a = stands_at r ok w h path n.task n.at

    abbrev inner : Stake
    inner = stake a.inner

    abbrev outer : List Stake
    outer = map stake a.outer

    are : x.its.stakes ≡ inner ∷ outer
    are = stakes_are a.its a.inner a.outer a.at a.stakes

    book : (z : Scope) × (scope (scope_id a.inner.scope) w.scopes ≡ Some z) × IsBookOf a.book z
    book = there IsBookOf a.book (get is_scope r.scopes a.inner.scope) (scope (scope_id a.inner.scope) w.scopes) (h.scopes a.inner.scope) a.there

    own_so : (IsNext r.job.job (course_of x.its) EndFinish → owns x.its (scope_id a.inner.scope) ≡ true)
        × (IsNext r.job.job (course_of x.its) EndTask → owns x.its (scope_id a.inner.scope) ≡ false)
    own_so =
        let p = program_of r.job.job in
        ends_are_own p (needs_of p) r.job.w0 ok.least (lists_of r.job.job) (budget_of r.job.job) h.events w h.led path.turns.items x.its n.worker
        inner outer x.lives x.hand are

    pub park_legal : waits_by (is_root path.turns.items) kind ≡ true
        → (to : World) × (next_world r.job (Parks path.turns.items) w ≡ Some to)
    park_legal e =
        let is = finish_of path.turns.items kind its_next.action of_kind e in
        let weightless : Stake = record inner { weight = 0 } in
        let to : Scope → World = λ z. record {
          live = put_task (record (did x.its (weightless ∷ outer)) { place = Parked }) w.live;
          scopes = put_scope (give_back inner.weight [] z) w.scopes;
        } in (
          to book.0,
          goes_in (by_park r.job.w0 does_so hands_so) EndFinish inner outer is are
              ∙ ap (λ o. and_then o (λ (z : Scope). only_if (owns x.its (scope_id a.inner.scope)) (Some (to z)))) book.1
              ∙ ap (λ b. only_if b (Some (to book.0))) (own_so.0 (its_next.next ∙ ap Some is)),
        )

    pub park_illegal : waits_by (is_root path.turns.items) kind ≡ false → next_world r.job (Parks path.turns.items) w ≡ None
    park_illegal e =
        let none = none_inside (by_park r.job.w0 does_so hands_so) x.its in
        acts_by (inside (by_park r.job.w0 does_so hands_so)) (λ yes. none Step (λ s o. refl)) (λ yes c. none (Spawn c) (λ s o. refl))
        (λ yes. none EnterFinish (λ s o. refl)) (λ yes. no_truth e yes) (λ yes. none EndTask (λ s o. refl))

    pub end_legal : ends_by (is_root path.turns.items) kind ≡ true
        → (to : World) × (next_world r.job (Ends path.turns.items) w ≡ Some to)
    end_legal e =
        let is = end_of path.turns.items kind its_next.action of_kind e in
        let handed = hands_so x.its.start x.its.receipts ∷ [] in
        let to : Scope → World = λ z. record {
          live = without_task x.its.path w.live;
          scopes = put_scope (give_back inner.weight handed z) w.scopes;
        } in (
          to book.0,
          goes_in (by_end r.job.w0 does_so hands_so) EndTask inner outer is are
              ∙ ap (λ o. and_then o (λ (z : Scope). only_if (not (owns x.its (scope_id a.inner.scope))) (Some (to z)))) book.1
              ∙ ap (λ b. only_if (not b) (Some (to book.0))) (own_so.1 (its_next.next ∙ ap Some is)),
        )

    pub end_illegal : ends_by (is_root path.turns.items) kind ≡ false → next_world r.job (Ends path.turns.items) w ≡ None
    end_illegal e =
        let none = none_inside (by_end r.job.w0 does_so hands_so) x.its in
        acts_by (inside (by_end r.job.w0 does_so hands_so)) (λ yes. none Step (λ s o. refl)) (λ yes c. none (Spawn c) (λ s o. refl))
        (λ yes. none EnterFinish (λ s o. refl)) (λ yes. none EndFinish (λ s o. refl)) (λ yes. no_truth e yes)

-- ---- a task in a queue
module _ (r : rWorld) (path : Path) (from : ℕ) (k : rTask) (at : get is_path r.tasks path ≡ Some k)
    (queued : in_queue (whereabouts k.place) from ≡ true) where
  pub take_legal : contains nat_eq r.hands from ≡ false → IsLegal r (Take from path.turns.items)
  take_legal free w h =
      let f = found r w h path from k at queued in
      let room : hand_is_free from w.live ≡ true = not-false (hand_is_free from w.live) (sym (h.hands from) ∙ free) in (
        moved (Hand from) f.its w,
        ap (λ o. and_then o (λ (t : Live). only_if (in_queue t.place from && hand_is_free from w.live) (Some (moved (Hand from) t w)))) f.lives
            ∙ ap (λ b. only_if (b && hand_is_free from w.live) (Some (moved (Hand from) f.its w))) f.queued
            ∙ ap (λ b. only_if b (Some (moved (Hand from) f.its w))) room,
      )

  pub steal_legal : (worker : ℕ) → (from ≡ worker → ⊥) → IsLegal r (Steal worker from path.turns.items)
  steal_legal worker other w h =
      let f = found r w h path from k at queued in (
        moved (Queue worker) f.its w,
        ap (λ o. and_then o (λ (t : Live). only_if (in_queue t.place from && not (nat_eq from worker)) (Some (moved (Queue worker) t w)))) f.lives
            ∙ ap (λ b. only_if (b && not (nat_eq from worker)) (Some (moved (Queue worker) f.its w))) f.queued
            ∙ ap (λ b. only_if (not b) (Some (moved (Queue worker) f.its w))) (ne_eqb from worker other),
      )

-- ---- a parked task
pub resume_legal : (r : rWorld) (path : Path) (worker : ℕ) → MayLeave r path → contains nat_eq r.hands worker ≡ false
    → IsLegal r (Resume worker path.turns.items None)
resume_legal r path worker m free w h = (to b.0, legal)
  where
    t : (t : Live) × (task path.turns.items w.live ≡ Some t) × IsTaskOf r.job.job m.at.its t
    t = there (IsTaskOf r.job.job) m.at.its (get is_path r.tasks path) (task path.turns.items w.live) (h.tasks path) m.at.at

    b : (z : Scope) × (scope (scope_id m.at.inner.scope) w.scopes ≡ Some z) × IsBookOf m.at.book z
    b = there IsBookOf m.at.book (get is_scope r.scopes m.at.inner.scope) (scope (scope_id m.at.inner.scope) w.scopes)
        (h.scopes m.at.inner.scope) m.at.there

    items : m.at.its.stakes.items ≡ m.at.inner ∷ m.next ∷ m.outer
    items = m.at.stakes ∙ ap (λ xs. m.at.inner ∷ xs) m.around

    to : Scope → World
    to z = record w {
      live = put_task (record t.0 { receipts = t.0.receipts ++ z.results ∷ []; stakes = stake m.next ∷ map stake m.outer; place = Hand worker }) w.live;
    }

    parked : is_parked t.0.place ≡ true
    parked = ap is_parked (sym t.2.place) ∙ ap (λ q. is_parked (whereabouts q)) m.place

    room : hand_is_free worker w.live ≡ true
    room = not-false (hand_is_free worker w.live) (sym (h.hands worker) ∙ free)

    legal : next_world r.job (Resume worker path.turns.items None) w ≡ Some (to b.0)
    legal =
        ap (λ o. and_then o (λ t. leave_with r w h path worker t t.stakes)) t.1
        ∙ ap (leave_with r w h path worker t.0) (sym t.2.stakes ∙ ap (map stake) items)
        ∙ ap (λ o. and_then o (λ (z : Scope). only_if (is_parked t.0.place && (z.passed && hand_is_free worker w.live)) (Some (to z)))) b.1
        ∙ ap (λ x. only_if (x && (b.0.passed && hand_is_free worker w.live)) (Some (to b.0))) parked
        ∙ ap (λ x. only_if (x && hand_is_free worker w.live) (Some (to b.0))) (sym b.2.passed ∙ m.passed)
        ∙ ap (λ x. only_if x (Some (to b.0))) room

-- ---- after a look
pub legal_then : (old mid : rWorld) (e : Event) → WorldStays old mid → IsLegal mid e → IsLegal old e
legal_then old mid e still legal w h =
    subst (λ j. (to : World) × (next_world j e w ≡ Some to)) still.job (legal w (stays_shown old mid still w h))

-- a step in place
pub step_in_place : (r : rWorld) → IsWeightedJob r.job → (path : Path) (k : rTask) → get is_path r.tasks path ≡ Some k
    → StepsInHand r.job.job k → IsLegal r (Steps path.turns.items)
step_in_place r ok path k at s w h =
    step_legal r ok w h path ToStep (record { task = k; at = at; worker = s.worker; hand = s.hand; next = s.next }) refl

-- every error fits
pub err_any : {T E : Type 0} (o : Result T E) {P : E → Type 0} → ((e : E) → P e) → IfErr o P
err_any (Ok x) h = tt
err_any (Err e) h = h e
