-- The events at the ends of finishes and of tasks, as the tables in Rust represent them.
use Rattle.std.proofs.Common.{◌≡◌, ℕ, ◌+◌, ◌≤◌, List, [], ◌∷◌, ◌++◌, Option, Some, None, refl, sym, ap, ◌∙◌, subst, arith}
use Rattle.std.proofs.lemmas.Option.{none-some, same_Some}
use Rattle.std.specs.Prelude.{Bool, true, false, ◌||◌, not, nat_eq, map, if◌then◌else◌, Contains, slice_index_or}
use Rattle.std.specs.Prelude.{Result, IfErr}
use Rattle.std.specs.Result.{IsErrAnd}
use Rattle.std.specs.HashMap.{get}
use Rattle.std.specs.HashSet.{contains}
use Rattle.shared_lemmas.proofs.Truths.{false_true}
use Rattle.types.specs.Code.{Program}
use Rattle.types.specs.declared.path.Path.{Path}
use Rattle.effects.specs.Rounds.{needs_of}
use Rattle.task_run.specs.Given.{root_of}
use Rattle.task_run.specs.Lists.{Each}
use Rattle.task_run.specs.OwnRun.{Action, Start, EndFinish, EndTask, last_action}
use Rattle.task_run.specs.Results.{TaskResult, and_then}
use Rattle.task_run.specs.Runs.{root}
use Rattle.task_run.specs.Translation.{task_result}
use Rattle.task_run.specs.declared.result.TaskResult.{TaskResult as Made}
use Rattle.task_run.specs.Jobs.{program_of, lists_of, budget_of}
use Rattle.event_worlds.specs.Acting.{IsReady, IsWanting}
use Rattle.event_worlds.specs.Courses.{IsAtAnEnd, IsKnown, course_of, IsDoing, IsNext}
use Rattle.event_worlds.specs.Ending.{GivesBack, IsSetDown}
use Rattle.event_worlds.specs.Ending.{NoneIsLate, ScopeBecomes, StandsAt, TaskBecomes, has_ended, is_root, is_waiting}
use Rattle.event_worlds.specs.Events.{Event, Ends, Parks, only_if, did, give_back, owns, with_next, in_innermost, by_end, by_park}
use Rattle.event_worlds.specs.Jobs.{IsWeightedJob}
use Rattle.event_worlds.specs.Replay.{does, hands_on}
use Rattle.types.specs.Translation.{is_path}
use Rattle.event_worlds.specs.Shown.{AreBoth, ArePaths, IsTaskOf, IsWorld, IsBookOf, IsTold, Becomes, Refuses, ScopeStays, Shows, WorldStays, is_scope, next_world}
use Rattle.event_worlds.specs.Shown.{scope_id, stake, whereabouts}
use Rattle.event_worlds.specs.World.{Stake, Live, Scope, World, Whereabouts, Parked, task, put_task}
use Rattle.event_worlds.specs.World.{without_task, scope, put_scope, hand_of, hand_is_free, is_passed, root_scope}
use Rattle.event_worlds.specs.Worlds.{next_of}
use Rattle.event_worlds.specs.declared.doing.TaskProgress.{TaskProgress}
use Rattle.event_worlds.specs.declared.doing.TaskProgress.TheVariants.{Starts, Runs, AtEnd}
use Rattle.event_worlds.specs.declared.error.EventError.{EventError}
use Rattle.event_worlds.specs.declared.error.EventError.TheVariants.{Illegal}
use Rattle.types.specs.declared.scope_id.ScopeId.{ScopeId as rScopeId}
use Rattle.event_worlds.specs.declared.scope.WorldScope.{WorldScope as rScope}
use Rattle.event_worlds.specs.declared.task.WorldStake.{WorldStake as rStake}
use Rattle.event_worlds.specs.declared.task.WorldTask.{WorldTask as rTask}
use Rattle.event_worlds.specs.declared.task.Whereabouts.{Whereabouts as rWhereabouts}
use Rattle.event_worlds.specs.declared.task.Whereabouts.TheVariants.{Queue as rQueue, Hand as rHand, Parked as rParked}
use Rattle.event_worlds.specs.declared.world.World.{World as rWorld}
use Rattle.event_worlds.proofs.AnEnd.{at_an_end}
use Rattle.event_worlds.proofs.Came.{ends_with}
use Rattle.event_worlds.proofs.InHand.{InHand, acts as goes_by, acts_nowhere, ahead_of, does_in, err_passed, gives_in, in_the_hand, known_next}
use Rattle.event_worlds.proofs.GoingOn.{ends_are_own}
use Rattle.event_worlds.proofs.Hands.{hands_are_apart, free_without, free_parked}
use Rattle.event_worlds.proofs.LateWeights.{none_is_late}
use Rattle.event_worlds.proofs.Histories.{contains_here}
use Rattle.event_worlds.proofs.Lookups.{by_test, other_path, task-without_task, gone-without_task, Unique}
use Rattle.event_worlds.proofs.Lookups.{passed-put_scope, scope_id as named_so}
use Rattle.event_worlds.proofs.Outcomes.{IsSound, replays_are_worlds, sound}
use Rattle.event_worlds.proofs.OwnTasks.{IsAtLevel, start_path}
use Rattle.event_worlds.proofs.Present.{IsThere}
use Rattle.event_worlds.proofs.Staying.{refuses_after, refuses_by, stays_book, stays_on, stays_self, stays_shown}
use Rattle.event_worlds.proofs.Tables.{there, not_there, tasks_put, paths_put, paths_without, scopes_put, led_on}
use Rattle.task_run.proofs.SettledResults.{paths_same}

-- ---- the next action
abbrev is_end : Action → Bool
is_end EndTask = true
is_end _ = false

abbrev is_finish : Action → Bool
is_finish EndFinish = true
is_finish _ = false

ends_so : (a : Action) → is_end a ≡ true → a ≡ EndTask
ends_so EndTask e = refl
ends_so a e = false_true e

finishes_so : (a : Action) → is_finish a ≡ true → a ≡ EndFinish
finishes_so EndFinish e = refl
finishes_so a e = false_true e

last_is : (path : List ℕ) → (is_end (last_action path) ≡ not (is_root path)) × (is_finish (last_action path) ≡ is_root path)
last_is [] = (refl, refl)
last_is (k ∷ path) = (refl, refl)

-- by the next action of the task with a path
ends_as : (path : List ℕ) (d : TaskProgress) (a : Action) → ahead_of path d ≡ Some a
    → (is_end a ≡ has_ended path d) × (is_finish a ≡ is_waiting path d)
ends_as path (Starts s) a e = absurd (none-some _ e)
ends_as path (Runs r) a e = absurd (none-some _ e)
ends_as path (AtEnd made) a e =
    let is = sym (same_Some _ _ e) in (ap is_end is ∙ (last_is path).0, ap is_finish is ∙ (last_is path).1)
ends_as path d a e = let is = sym (same_Some _ _ e) in (ap is_end is, ap is_finish is)

-- a task at its end has made something
pub has_made : (path : List ℕ) (d : TaskProgress) → has_ended path d ≡ true → (made : Made) × (d ≡ AtEnd made)
has_made path (AtEnd made) e = (made, refl)
has_made path d e = false_true e

-- a live task in a worker's hand, whose next action is known
pub record IsSeen (r : rWorld) (path : Path) (worker : ℕ) : Type 0 where
  pub its : rTask
  pub at : get is_path r.tasks path ≡ Some its
  pub place : its.place ≡ rHand worker
  pub known : IsKnown its.doing

-- ---- a represented world
module _ (r : rWorld) (ok : IsWeightedJob r.job) (w : World) (h : Shows r w) where
  abbrev p : Program
  p = program_of r.job.job

  abbrev acts : Start → List (List TaskResult) → List Action
  acts = does p (needs_of p) (budget_of r.job.job).steps r.job.w0

  abbrev hands_on_so : Start → List (List TaskResult) → TaskResult
  hands_on_so = hands_on p (needs_of p) (budget_of r.job.job).steps r.job.w0

  -- no task has more weight than what is out
  pub none_late : NoneIsLate r
  none_late path a =
      let t = there (IsTaskOf r.job.job) a.its (get is_path r.tasks path) (task path.turns.items w.live) (h.tasks path) a.at in
      let b = there IsBookOf a.book (get is_scope r.scopes a.inner.scope) (scope (scope_id a.inner.scope) w.scopes) (h.scopes a.inner.scope)
      a.there in
      let among : Contains t.0.stakes (stake a.inner)
      = subst (λ ss. Contains ss (stake a.inner)) (ap (map stake) (sym a.stakes) ∙ t.2.stakes)
      (contains_here (stake a.inner) (map stake a.outer)) in
      let late = none_is_late r.job.w0 acts hands_on_so ok.least
      (root_of p (lists_of r.job.job) (budget_of r.job.job).nest) h.events w
      (replays_are_worlds p (needs_of p) r.job.w0 (lists_of r.job.job) (budget_of r.job.job) h.events w h.led) path.turns.items t.0
      (stake a.inner) b.0 t.1 among b.1 in
      let issued = b.2.issued in
      let returned = b.2.returned in
      omega (arith, late, issued, returned)

  -- a live task is in a scope that exists
  pub stands_at : (path : Path) (k : rTask) → get is_path r.tasks path ≡ Some k → StandsAt r path
  stands_at path k at = by_items k.stakes.items refl
    where
      t : (x : Live) × (task path.turns.items w.live ≡ Some x) × IsTaskOf r.job.job k x
      t = there (IsTaskOf r.job.job) k (get is_path r.tasks path) (task path.turns.items w.live) (h.tasks path) at

      all : IsSound p (needs_of p) (budget_of r.job.job).steps r.job.w0 ok.least
          (root_of p (lists_of r.job.job) (budget_of r.job.job).nest) refl h.events w
      all = sound p (needs_of p) r.job.w0 ok.least (lists_of r.job.job) (budget_of r.job.job) h.events w h.led

      level : (q : Whereabouts) (ss : List Stake) → ss ≡ [] → IsAtLevel p (needs_of p) (budget_of r.job.job).steps r.job.w0
          (root_of p (lists_of r.job.job) (budget_of r.job.job).nest) refl q ss t.0 → ⊥
      level q ss e l = subst (λ s. IsAtLevel p (needs_of p) (budget_of r.job.job).steps r.job.w0
          (root_of p (lists_of r.job.job) (budget_of r.job.job).nest) refl q s t.0) e l

      in_table : (id : rScopeId) (o : Option rScope) → get is_scope r.scopes id ≡ o
          → (b : Scope) × (scope (scope_id id) w.scopes ≡ Some b) → (s : rScope) × (o ≡ Some s)
      in_table id None e b =
          absurd (none-some _ (sym (not_there IsBookOf (get is_scope r.scopes id) (scope (scope_id id) w.scopes) (h.scopes id) e) ∙ b.1))
      in_table id (Some s) e b = (s, refl)

      by_items : (ss : List rStake) → k.stakes.items ≡ ss → StandsAt r path
      by_items [] e =
          absurd (level t.0.place t.0.stakes (sym t.2.stakes ∙ ap (map stake) e) (all.own.tasks path.turns.items t.0 t.1).level)
      by_items (s ∷ outer) e =
          let all_there = subst (Each (IsThere w.scopes)) (sym t.2.stakes ∙ ap (map stake) e) (all.there path.turns.items t.0 t.1) in
          let book = in_table s.scope (get is_scope r.scopes s.scope) refl all_there.0 in
          record { its = k; at = at; inner = s; outer = outer; stakes = e; book = book.0; there = book.1 }

  -- if no task is in a hand, no event of a task in a hand is legal
  unseen_goes : (path : Path) → ((k : rTask) → get is_path r.tasks path ≡ Some k → hand_of (whereabouts k.place) ≡ None)
      → (go : Live → Stake → List Stake → World → Action → Option World)
      → with_next r.job.w0 acts hands_on_so path.turns.items w
      (λ t a. in_innermost r.job.w0 acts hands_on_so t.stakes (λ s outer. go t s outer w a)) ≡ None
  unseen_goes path none go =
      acts_nowhere r w h path (λ t a. in_innermost r.job.w0 acts hands_on_so t.stakes (λ s outer. go t s outer w a)) none

  -- ---- a task in a hand, whose next action is known
  module _ (path : Path) (worker : ℕ) (seen : IsSeen r path worker) where
    record Found : Type 0 where
      here : InHand r w path worker seen.its
      open here use *
      action : Action
      does_so : ahead_of path.turns.items seen.its.doing ≡ Some action
      next : IsNext r.job.job (course_of here.its) action

    found : Found
    found =
        let here = in_the_hand r w h path worker seen.its seen.at (ap (λ q. hand_of (whereabouts q)) seen.place) in
        let next = known_next r.job.job (course_of here.its) seen.its.doing seen.known here.doing in
        let own = (sound p (needs_of p) r.job.w0 ok.least (lists_of r.job.job) (budget_of r.job.job) h.events w h.led).own.tasks
        path.turns.items here.its here.lives in
        let started = start_path p (needs_of p) (budget_of r.job.job).steps r.job.w0
        (root_of p (lists_of r.job.job) (budget_of r.job.job).nest) refl here.its own in
        record {
          here = here;
          action = next.0;
          does_so = ap (λ q. ahead_of q seen.its.doing) (sym (started ∙ here.named)) ∙ next.2;
          next = next.1;
        }

    -- the result of an event that needs the innermost scope
    abbrev goes_in : (Live → Stake → List Stake → World → Action → Option World) → Option World
    goes_in go = with_next r.job.w0 acts hands_on_so path.turns.items w
        (λ t a. in_innermost r.job.w0 acts hands_on_so t.stakes (λ s outer. go t s outer w a))

    goes : (go : Live → Stake → List Stake → World → Action → Option World)
        → goes_in go ≡ in_innermost r.job.w0 acts hands_on_so found.its.stakes (λ s outer. go found.its s outer w found.action)
    goes go =
        goes_by r w h path worker seen.its found.here found.action
        (λ t a. in_innermost r.job.w0 acts hands_on_so t.stakes (λ s outer. go t s outer w a)) found.next

    none_inside : (ss : List Stake) (go : Stake → List Stake → Option World) → ((s : Stake) (outer : List Stake) → go s outer ≡ None)
        → in_innermost r.job.w0 acts hands_on_so ss go ≡ None
    none_inside [] go none = refl
    none_inside (s ∷ outer) go none = none s outer

    no_other : (a : Action) (s : Stake) (outer : List Stake)
        → (is_end a ≡ false → by_end r.job.w0 acts hands_on_so found.its s outer w a ≡ None)
        × (is_finish a ≡ false → by_park r.job.w0 acts hands_on_so found.its s outer w a ≡ None)
    no_other EndTask s outer = (λ e. false_true (sym e), λ e. refl)
    no_other EndFinish s outer = (λ e. refl, λ e. false_true (sym e))
    no_other a s outer = (λ e. refl, λ e. refl)

    does_as : (is_end found.action ≡ has_ended path.turns.items seen.its.doing)
        × (is_finish found.action ≡ is_waiting path.turns.items seen.its.doing)
    does_as = ends_as path.turns.items seen.its.doing found.action found.does_so

    pub not_ended : has_ended path.turns.items seen.its.doing ≡ false → next_world r.job (Ends path.turns.items) w ≡ None
    not_ended e =
        goes (by_end r.job.w0 acts hands_on_so)
        ∙ none_inside found.its.stakes _ (λ s outer. (no_other found.action s outer).0 (does_as.0 ∙ e))

    pub not_waiting : is_waiting path.turns.items seen.its.doing ≡ false → next_world r.job (Parks path.turns.items) w ≡ None
    not_waiting e =
        goes (by_park r.job.w0 acts hands_on_so)
        ∙ none_inside found.its.stakes _ (λ s outer. (no_other found.action s outer).1 (does_as.1 ∙ e))

    module _ (inner : rStake) (outer : List rStake) (stakes : seen.its.stakes.items ≡ inner ∷ outer) (book : rScope)
        (kept : get is_scope r.scopes inner.scope ≡ Some book) (to_book : rScope) (new : rWorld)
        (hand : (v : ℕ) → contains nat_eq new.hands v ≡ (if nat_eq worker v then false else contains nat_eq r.hands v))
        (each_scope : (q : rScopeId) → get is_scope new.scopes q ≡ (if is_scope inner.scope q then Some to_book else get is_scope r.scopes q)) where
      are : found.its.stakes ≡ stake inner ∷ map stake outer
      are = sym found.is.stakes ∙ ap (map stake) stakes

      goes_inside : (go : Live → Stake → List Stake → World → Action → Option World) (a : Action) → found.action ≡ a
          → goes_in go ≡ go found.its (stake inner) (map stake outer) w a
      goes_inside go a next =
          goes go ∙ ap (λ a. in_innermost r.job.w0 acts hands_on_so found.its.stakes (λ s outer. go found.its s outer w a)) next
          ∙ ap (λ ss. in_innermost r.job.w0 acts hands_on_so ss (λ s outer. go found.its s outer w a)) are

      its_book : (b : Scope) × (scope (scope_id inner.scope) w.scopes ≡ Some b) × IsBookOf book b
      its_book = there IsBookOf book (get is_scope r.scopes inner.scope) (scope (scope_id inner.scope) w.scopes) (h.scopes inner.scope) kept

      -- with another scope that replaces it, and has passed exactly if it has
      told_so : (to : Scope) → to.id ≡ its_book.0.id → to.passed ≡ its_book.0.passed
          → IsTold r.job.job (is_passed (scope root_scope (put_scope to w.scopes))) r.told
      told_so to named passed =
          subst (λ b. IsTold r.job.job b r.told)
          (sym (passed-put_scope to its_book.0 root_scope w.scopes
          (ap (λ i. scope i w.scopes) (named ∙ named_so (scope_id inner.scope) w.scopes its_book.0 its_book.1) ∙ its_book.1) passed))
          h.told

      freed_hand : (x f : Bool) → (if x then false else not f) ≡ not (x || f)
      freed_hand true f = refl
      freed_hand false f = refl

      hands_so : (live : List Live) → ((v : ℕ) → hand_is_free v live ≡ (nat_eq worker v || hand_is_free v w.live))
          → (v : ℕ) → contains nat_eq new.hands v ≡ not (hand_is_free v live)
      hands_so live free v =
          hand v ∙ ap (λ b. if nat_eq worker v then false else b) (h.hands v) ∙ freed_hand (nat_eq worker v) (hand_is_free v w.live)
          ∙ ap not (sym (free v))

      own_so : (next_of p r.job.w0 (budget_of r.job.job) found.its ≡ Some EndFinish
          → owns found.its (scope_id inner.scope) ≡ true)
          × (next_of p r.job.w0 (budget_of r.job.job) found.its ≡ Some EndTask
          → owns found.its (scope_id inner.scope) ≡ false)
      own_so =
          ends_are_own p (needs_of p) r.job.w0 ok.least (lists_of r.job.job) (budget_of r.job.job) h.events w h.led path.turns.items found.its worker
          (stake inner) (map stake outer) found.lives found.hand are

      -- after an event the tables represent the world that the event leads to
      abbrev IsShownAfter : Event → Type 0
      IsShownAfter e = (to : World) × (next_world r.job e w ≡ Some to)
          × Shows (record r { tasks = new.tasks; scopes = new.scopes; hands = new.hands }) to

      -- its scope is given back weight and results
      abbrev given_back : List Live → List TaskResult → World
      given_back live results = record { live = live; scopes = put_scope (give_back inner.weight results its_book.0) w.scopes }

      shown_after : (e : Event) (live : List Live) (results : List TaskResult) → next_world r.job e w ≡ Some (given_back live results)
          → GivesBack inner.weight results book to_book
          → ((q : Path) → AreBoth (IsTaskOf r.job.job) (get is_path new.tasks q) (task q.turns.items live)) → ArePaths live
          → ((v : ℕ) → hand_is_free v live ≡ (nat_eq worker v || hand_is_free v w.live)) → IsShownAfter e
      shown_after e live results legal gives tasks paths free = (
        given_back live results,
        legal,
        record {
          events = h.events ++ e ∷ [];
          led = led_on p r.job.w0 (lists_of r.job.job) (budget_of r.job.job) e h.events w (given_back live results) h.led legal;
          tasks = tasks;
          paths = paths;
          scopes = scopes_put (get is_scope r.scopes) (get is_scope new.scopes) inner.scope to_book its_book.0
              (give_back inner.weight results its_book.0) w.scopes h.scopes its_book.1
              (named_so (scope_id inner.scope) w.scopes its_book.0 its_book.1) (gives its_book.0 its_book.2) each_scope;
          hands = hands_so live free;
          told = told_so (give_back inner.weight results its_book.0) refl refl;
        },
      )

      -- ---- a task ends
      module _ (made : Made) (at_end : seen.its.doing ≡ AtEnd made) (ended : has_ended path.turns.items seen.its.doing ≡ true)
          (gives : GivesBack inner.weight (task_result made ∷ []) book to_book)
          (each : (q : Path) → get is_path new.tasks q ≡ (if is_path path q then None else get is_path r.tasks q)) where
        abbrev handed : TaskResult
        handed = hands_on_so found.its.start found.its.receipts

        abbrev without : World
        without = given_back (without_task found.its.path w.live) (handed ∷ [])

        made_so : task_result made ≡ handed
        made_so =
            let d = subst (IsDoing r.job.job (course_of found.its)) at_end found.doing in
            d.1.is ∙ sym (ends_with p (needs_of p) (budget_of r.job.job).steps
            (root p (lists_of r.job.job) (budget_of r.job.job)) found.its.start found.its.receipts d.1.state
            d.1.come.follows)

        end_next : found.action ≡ EndTask
        end_next = ends_so found.action (does_as.0 ∙ ended)

        end_legal : next_world r.job (Ends path.turns.items) w ≡ Some without
        end_legal =
            goes_inside (by_end r.job.w0 acts hands_on_so) EndTask end_next
            ∙ ap (λ o. and_then o (λ (b : Scope). only_if (not (owns found.its (scope_id inner.scope))) (Some (with_book b)))) its_book.1
            ∙ ap (λ x. only_if (not x) (Some without)) (own_so.1 (found.next ∙ ap Some end_next))
          where
            with_book : Scope → World
            with_book b = record {
              live = without_task found.its.path w.live;
              scopes = put_scope (give_back inner.weight (handed ∷ []) b) w.scopes;
            }

        unique : Unique w.live
        unique = (sound p (needs_of p) r.job.w0 ok.least (lists_of r.job.job) (budget_of r.job.job) h.events w h.led).kept.unique

        tasks_so : (q : Path) → AreBoth (IsTaskOf r.job.job) (get is_path new.tasks q) (task q.turns.items (without_task found.its.path w.live))
        tasks_so q =
            subst (λ o. AreBoth (IsTaskOf r.job.job) o (task q.turns.items (without_task found.its.path w.live))) (sym (each q))
            (by_test (λ b. AreBoth (IsTaskOf r.job.job) (if b then None else get is_path r.tasks q)
            (task q.turns.items (without_task found.its.path w.live))) (is_path path q)
            (λ e. subst (λ o. AreBoth (IsTaskOf r.job.job) None o)
            (sym (ap (λ x. task x (without_task found.its.path w.live)) (sym (found.named ∙ paths_same path.turns.items q.turns.items e))
            ∙ gone-without_task found.its.path w.live unique)) tt)
            (λ e. subst (λ o. AreBoth (IsTaskOf r.job.job) (get is_path r.tasks q) o)
            (sym (task-without_task found.its.path q.turns.items w.live (λ same. other_path e (sym found.named ∙ same)))) (h.tasks q)))

        pub ended_shown : IsShownAfter (Ends path.turns.items)
        ended_shown =
            shown_after (Ends path.turns.items) (without_task found.its.path w.live) (handed ∷ []) end_legal
            (subst (λ x. GivesBack inner.weight (x ∷ []) book to_book) made_so gives) tasks_so
            (paths_without found.its.path found.its w.live (ap (λ x. task x w.live) found.named ∙ found.lives) h.paths)
            (λ v. free_without found.its w.live (hands_are_apart p r.job.w0 (lists_of r.job.job) (budget_of r.job.job) h.events w h.led) worker v
            found.hand found.its.path (ap (λ x. task x w.live) found.named ∙ found.lives))

      -- ---- a task is parked
      module _ (waits : is_waiting path.turns.items seen.its.doing ≡ true) (gives : GivesBack inner.weight [] book to_book)
          (to_task : rTask) (down : IsSetDown seen.its to_task)
          (each : (q : Path) → get is_path new.tasks q ≡ (if is_path path q then Some to_task else get is_path r.tasks q)) where
        abbrev parked : Live
        parked = record (did found.its (record (stake inner) { weight = 0 } ∷ map stake outer)) { place = Parked }

        abbrev with_parked : World
        with_parked = given_back (put_task parked w.live) []

        park_next : found.action ≡ EndFinish
        park_next = finishes_so found.action (does_as.1 ∙ waits)

        park_legal : next_world r.job (Parks path.turns.items) w ≡ Some with_parked
        park_legal =
            goes_inside (by_park r.job.w0 acts hands_on_so) EndFinish park_next
            ∙ ap (λ o. and_then o (λ (b : Scope). only_if (owns found.its (scope_id inner.scope)) (Some (with_book b)))) its_book.1
            ∙ ap (λ x. only_if x (Some with_parked)) (own_so.0 (found.next ∙ ap Some park_next))
          where
            with_book : Scope → World
            with_book b = record {
              live = put_task parked w.live;
              scopes = put_scope (give_back inner.weight [] b) w.scopes;
            }

        pub parked_shown : IsShownAfter (Parks path.turns.items)
        parked_shown =
            shown_after (Parks path.turns.items) (put_task parked w.live) [] park_legal gives
            (tasks_put r.job.job (get is_path r.tasks) (get is_path new.tasks) path to_task found.its parked w.live h.tasks found.lives
            found.named
            (record {
              place = ap whereabouts down.place;
              stakes = down.stakes inner outer stakes;
              opened = down.opened ∙ found.is.opened;
              doing = record {
                before = course_of found.its;
                last = refl;
                at = subst (IsDoing r.job.job (course_of found.its)) (sym down.doing) found.doing;
                waits = subst IsAtAnEnd (sym down.doing) (at_an_end path.turns.items seen.its.doing waits);
              };
            })
            each)
            (paths_put parked found.its w.live (ap (λ x. task x w.live) found.named ∙ found.lives) h.paths)
            (λ v. free_parked found.its w.live (hands_are_apart p r.job.w0 (lists_of r.job.job) (budget_of r.job.job) h.events w h.led) worker v
            found.hand parked refl (ap (λ x. task x w.live) found.named ∙ found.lives))

-- ---- lemmas for the functions of worlds
-- the hand of a task
hand_place : (q : rWhereabouts) (v : ℕ) → hand_of (whereabouts q) ≡ Some v → q ≡ rHand v
hand_place (rQueue u) v e = absurd (none-some _ e)
hand_place (rHand u) v e = ap rHand (same_Some _ _ e)
hand_place rParked v e = absurd (none-some _ e)

pub seen_by : (r : rWorld) (path : Path) (worker : ℕ) → IsReady r path worker → IsSeen r path worker
seen_by r path worker g = record { its = g.task; at = g.at; place = hand_place g.task.place worker g.hand; known = g.known }

-- what was found is the task's own stake and scope
pub record IsHere (r : rWorld) (path : Path) (a : StandsAt r path) (k : rTask) (s : rStake) (b : rScope) : Type 0 where
  pub task : k ≡ a.its
  pub stake : s ≡ a.inner
  pub book : b ≡ a.book

pub found_here : {k : rTask} {s : rStake} {b : rScope} (r : rWorld) (path : Path) (a : StandsAt r path)
    → get is_path r.tasks path ≡ Some k → s ≡ slice_index_or k.stakes.items 0 s → get is_scope r.scopes s.scope ≡ Some b
    → IsHere r path a k s b
found_here {s = s} r path a at front there =
    let task_is = same_Some _ _ (sym at ∙ a.at) in
    let stake_is = front ∙ ap (λ xs. slice_index_or xs 0 s) (ap (λ (k : rTask). k.stakes.items) task_is ∙ a.stakes) in
    record {
      task = task_is;
      stake = stake_is;
      book = same_Some _ _ (sym there ∙ ap (λ (x : rStake). get is_scope r.scopes x.scope) stake_is ∙ a.there);
    }

-- the scope exists
pub none_here : {k : rTask} {s : rStake} (r : rWorld) (path : Path) (a : StandsAt r path)
    → get is_path r.tasks path ≡ Some k → s ≡ slice_index_or k.stakes.items 0 s → get is_scope r.scopes s.scope ≡ None → ⊥
none_here {s = s} r path a at front none =
    let task_is = same_Some _ _ (sym at ∙ a.at) in
    let stake_is = front ∙ ap (λ xs. slice_index_or xs 0 s) (ap (λ (k : rTask). k.stakes.items) task_is ∙ a.stakes) in
    none-some _ (sym none ∙ ap (λ (x : rStake). get is_scope r.scopes x.scope) stake_is ∙ a.there)

-- a task needs weight from only one scope
pub one_wanted : {k l : rTask} {id other : rScopeId} → k ≡ l → IsWanting k id → IsWanting l other → id ≡ other
one_wanted same w v =
    let stakes = sym w.stakes ∙ ap (λ (k : rTask). k.stakes.items) same ∙ v.stakes in
    let inner : w.inner ≡ v.inner = cc stakes in
    sym w.named ∙ ap (λ (s : rStake). s.scope) inner ∙ v.named

-- and its weight there is at most what is out
pub late_here : {k : rTask} {s : rStake} {b : rScope} (r : rWorld) (path : Path) → NoneIsLate r → (a : StandsAt r path)
    → get is_path r.tasks path ≡ Some k → s ≡ slice_index_or k.stakes.items 0 s → get is_scope r.scopes s.scope ≡ Some b
    → b.returned + s.weight ≤ b.issued
late_here r path none a at front there =
    let same = found_here r path a at front there in
    let late = none path a in
    let weight = ap (λ (s : rStake). s.weight) same.stake in
    let returned = ap (λ (b : rScope). b.returned) same.book in
    let issued = ap (λ (b : rScope). b.issued) same.book in
    omega (arith, late, weight, returned, issued)

-- the task was looked at, and the tables are unchanged
module _ {old r1 : rWorld} (known : IsWorld old) (still : WorldStays old r1) where
  known_on : IsWorld r1
  known_on = record {
    job = subst IsWeightedJob (sym still.job) known.job;
    world = known.world;
    shows = stays_shown old r1 still known.world known.shows;
  }

  refused_so : (e : Event) → ((w : World) → Shows r1 w → next_world r1.job e w ≡ None) → Refuses e old r1 Illegal
  refused_so e none = refuses_after old r1 r1 e Illegal still (stays_self r1, none)

  -- no task is in a hand
  module _ {A : Type 0} (o : Result A EventError) (path : Path) (e : EventError) (is : IsErrAnd o (λ x. x ≡ e))
      (nowhere : e ≡ Illegal → (k : rTask) → get is_path old.tasks path ≡ Some k → hand_of (whereabouts k.place) ≡ None) where
    unseen_so : (event : Event) → ((w : World) → Shows old w → e ≡ Illegal → next_world old.job event w ≡ None) → IfErr o (Refuses event old r1)
    unseen_so event none = err_passed o e (Refuses event old r1) is (refuses_by old r1 event e still (λ i w h. none w h i))

    pub end_unseen : IfErr o (Refuses (Ends path.turns.items) old r1)
    end_unseen =
        unseen_so (Ends path.turns.items) (λ w h i. unseen_goes old known.job w h path (nowhere i)
        (by_end old.job.w0 (does_in old.job) (gives_in old.job)))

    pub park_unseen : IfErr o (Refuses (Parks path.turns.items) old r1)
    park_unseen =
        unseen_so (Parks path.turns.items) (λ w h i. unseen_goes old known.job w h path (nowhere i)
        (by_park old.job.w0 (does_in old.job) (gives_in old.job)))

  module _ {path : Path} {worker : ℕ} (ready : IsReady r1 path worker) where
    abbrev asked : IsSeen r1 path worker
    asked = seen_by r1 path worker ready

    pub end_refused : {b : Bool} → ((k : rTask) → get is_path r1.tasks path ≡ Some k → b ≡ has_ended path.turns.items k.doing)
        → b ≡ false → Refuses (Ends path.turns.items) old r1 Illegal
    end_refused said none =
        refused_so (Ends path.turns.items)
        (λ w h. not_ended r1 known_on.job w h path worker asked (sym (said asked.its asked.at) ∙ none))

    pub park_refused : {b : Bool} → ((k : rTask) → get is_path r1.tasks path ≡ Some k → b ≡ is_waiting path.turns.items k.doing)
        → b ≡ false → Refuses (Parks path.turns.items) old r1 Illegal
    park_refused said none =
        refused_so (Parks path.turns.items)
        (λ w h. not_waiting r1 known_on.job w h path worker asked (sym (said asked.its asked.at) ∙ none))

    -- its stake and scope, and it gives back at most what is out
    pub stands_there : StandsAt r1 path × NoneIsLate r1
    stands_there = (
      stands_at r1 known_on.job known_on.world known_on.shows path ready.task ready.at,
      none_late r1 known_on.job known_on.world known_on.shows,
    )

-- the event continues with what was looked up
module _ (old : rWorld) (ok : IsWeightedJob old.job) (path : Path) (r1 : rWorld) (others1 : r1 ≡ record old { tasks = r1.tasks })
    (still1 : WorldStays old r1) where
  module _ (worker : ℕ) (seen1 : IsSeen r1 path worker) where
    abbrev looked : rWorld
    looked = record old { tasks = r1.tasks }

    abbrev seen : IsSeen looked path worker
    seen = record { its = seen1.its; at = seen1.at; place = seen1.place; known = seen1.known }

    shown : (w : World) → Shows old w → Shows looked w
    shown w h = subst (λ r. Shows r w) others1 (stays_shown old r1 still1 w h)

    -- ---- a task is parked
    module _ (waits : is_waiting path.turns.items seen1.its.doing ≡ true) (a : StandsAt r1 path) (r2 : rWorld)
        (others2 : r2 ≡ record r1 { scopes = r2.scopes })
        (given : ScopeBecomes r1 r2 a.inner.scope (GivesBack a.inner.weight [] a.book)) (r3 : rWorld)
        (others3 : r3 ≡ record r2 { tasks = r3.tasks })
        (down : (k : rTask) → get is_path r2.tasks path ≡ Some k → TaskBecomes r2 r3 path (IsSetDown k)) (last : rWorld)
        (hand : (v : ℕ) → contains nat_eq last.hands v ≡ (if nat_eq worker v then false else contains nat_eq r3.hands v)) where
      same_tasks : r2.tasks ≡ r1.tasks
      same_tasks = ap (λ (r : rWorld). r.tasks) others2

      same_hands : r3.hands ≡ old.hands
      same_hands =
          ap (λ (r : rWorld). r.hands) others3 ∙ ap (λ (r : rWorld). r.hands) others2 ∙ ap (λ (r : rWorld). r.hands) others1

      downed : TaskBecomes r2 r3 path (IsSetDown seen1.its)
      downed = down seen1.its (ap (λ ts. get is_path ts path) same_tasks ∙ seen1.at)

      its_is : a.its ≡ seen1.its
      its_is = same_Some _ _ (sym a.at ∙ seen1.at)

      same_scopes : r1.scopes ≡ old.scopes
      same_scopes = ap (λ (r : rWorld). r.scopes) others1

      together : record old { tasks = r3.tasks; scopes = r2.scopes; hands = last.hands } ≡ record r3 { hands = last.hands }
      together =
          sym (ap (λ (r : rWorld). record r { hands = last.hands }) others3
          ∙ ap (λ (r : rWorld). record r { tasks = r3.tasks; hands = last.hands }) others2
          ∙ ap (λ (r : rWorld). record r { tasks = r3.tasks; scopes = r2.scopes; hands = last.hands }) others1)

      pub park_done : Becomes (Parks path.turns.items) old (record r3 { hands = last.hands })
      park_done w h =
          let s = parked_shown looked ok w (shown w h) path worker seen a.inner a.outer
          (ap (λ (k : rTask). k.stakes.items) (sym its_is) ∙ a.stakes) a.book
          (ap (λ ss. get is_scope ss a.inner.scope) (sym same_scopes) ∙ a.there) given.to (record old { tasks = r3.tasks; scopes = r2.scopes; hands = last.hands })
          (λ v. hand v ∙ ap (λ hs. if nat_eq worker v then false else contains nat_eq hs v) same_hands)
          (λ q. given.each q ∙ ap (λ ss. if is_scope a.inner.scope q then Some given.to else get is_scope ss q) same_scopes) waits
          given.fits downed.to downed.fits
          (λ q. downed.each q ∙ ap (λ ts. if is_path path q then Some downed.to else get is_path ts q) same_tasks) in
          (s.0, s.1, subst (λ r. Shows r s.0) together s.2)

    -- ---- a task ends
    module _ (a : StandsAt r1 path) (r3 : rWorld) (others3 : r3 ≡ record r1 { scopes = r3.scopes }) where
      all_others : r3 ≡ record old { tasks = r1.tasks; scopes = r3.scopes }
      all_others = others3 ∙ ap (λ (r : rWorld). record r { scopes = r3.scopes }) others1

      kept_scopes : r1.scopes ≡ old.scopes
      kept_scopes = ap (λ (r : rWorld). r.scopes) others1

      end_there : get is_scope old.scopes a.inner.scope ≡ Some a.book
      end_there = ap (λ ss. get is_scope ss a.inner.scope) (sym kept_scopes) ∙ a.there

      -- there is no room for its result
      pub end_roomless : ScopeBecomes r1 r3 a.inner.scope (ScopeStays a.book) → WorldStays old r3
      end_roomless s =
          subst (WorldStays old) (sym others3)
          (stays_on old r1 (record r1 { scopes = r3.scopes }) still1
          (stays_book r1 a.inner.scope a.book s.to r3.scopes a.there s.fits s.each))

      module _ (made : Made) (at_end : seen1.its.doing ≡ AtEnd made) (ended : has_ended path.turns.items seen1.its.doing ≡ true)
          (given : ScopeBecomes r1 r3 a.inner.scope (GivesBack a.inner.weight (task_result made ∷ []) a.book)) (last : rWorld)
          (without : (q : Path) → get is_path last.tasks q ≡ (if is_path path q then None else get is_path r3.tasks q))
          (hand : (v : ℕ) → contains nat_eq last.hands v ≡ (if nat_eq worker v then false else contains nat_eq r3.hands v)) where
        its_here : a.its ≡ seen1.its
        its_here = same_Some _ _ (sym a.at ∙ seen1.at)

        stakes : seen1.its.stakes.items ≡ a.inner ∷ a.outer
        stakes = ap (λ (k : rTask). k.stakes.items) (sym its_here) ∙ a.stakes

        each : (q : Path) → get is_path last.tasks q ≡ (if is_path path q then None else get is_path r1.tasks q)
        each q = without q ∙ ap (λ (r : rWorld). if is_path path q then None else get is_path r.tasks q) others3

        pub end_done : Becomes (Ends path.turns.items) old (record r3 { tasks = last.tasks; hands = last.hands })
        end_done w h =
            let s = ended_shown looked ok w (shown w h) path worker seen a.inner a.outer stakes a.book end_there given.to
            (record old { tasks = last.tasks; scopes = r3.scopes; hands = last.hands })
            (λ v. hand v ∙ ap (λ (r : rWorld). if nat_eq worker v then false else contains nat_eq r.hands v) all_others)
            (λ q. given.each q ∙ ap (λ ss. if is_scope a.inner.scope q then Some given.to else get is_scope ss q) kept_scopes) made at_end
            ended given.fits each in (
              s.0,
              s.1,
              subst (λ r. Shows r s.0) (sym (ap (λ (r : rWorld). record r { tasks = last.tasks; hands = last.hands }) all_others)) s.2,
            )
