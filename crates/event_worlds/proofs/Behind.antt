-- A task continues after a finish, as the tables in Rust represent it.
use Rattle.std.proofs.Common.{◌≡◌, ℕ, List, [], ◌∷◌, ◌++◌, length, Option, Some, None, refl, sym, ap, ◌∙◌, subst, arith}
use Rattle.std.proofs.lemmas.List.{length_push}
use Rattle.std.proofs.lemmas.Option.{none-some, same_Some}
use Rattle.std.proofs.lemmas.Bool.{not-false}
use Rattle.std.specs.Prelude.{Bool, true, false, ◌&&◌, ◌<◌, not, nat_eq, map, drop, slice_index_or, if◌then◌else◌}
use Rattle.std.specs.HashMap.{get}
use Rattle.std.specs.HashSet.{contains}
use Rattle.shared_lemmas.proofs.Lists.{same_head}
use Rattle.types.specs.Run.{State}
use Rattle.types.specs.Translation.{program, is_path}
use Rattle.types.specs.declared.path.Path.{Path}
use Rattle.effects.specs.Rounds.{needs_of}
use Rattle.task_run.specs.Frames.{AtEnd, handed}
use Rattle.task_run.specs.Given.{IsOfOwnRun}
use Rattle.task_run.specs.Lists.{Each}
use Rattle.task_run.specs.OwnRun.{Own, EndFinish, result_of}
use Rattle.task_run.specs.Reached.{has_ended, leaves}
use Rattle.task_run.specs.Results.{TaskResult, Settled, and_then}
use Rattle.task_run.specs.Runs.{root, IsMadeByTask, IsTaskResult}
use Rattle.task_run.specs.RunTurns.{ComesBack}
use Rattle.task_run.specs.Settling.{settle}
use Rattle.task_run.specs.Translation.{settled as settled_of, task_result}
use Rattle.task_run.specs.declared.result.TaskResult.{TaskResult as Made}
use Rattle.task_run.specs.declared.run.Run.{Run}
use Rattle.task_run.specs.declared.turn.Paused.{Paused}
use Rattle.task_run.proofs.Lists.{each_more}
use Rattle.task_run.proofs.TaskRuns.{made_if_given, leaves_follow}
use Rattle.gather.specs.GivesBack.{GiveBack, all_owned}
use Rattle.task_run.specs.Jobs.{IsJob, program_of, lists_of, budget_of}
use Rattle.task_run.specs.declared.job.Job.{Job}
use Rattle.gather.proofs.TasksGiveBack.{comes_back, give_back}
use Rattle.event_worlds.specs.Courses.{Course, course_of, further, HasCome, IsDoing, IsPausedOf, IsRunOf}
use Rattle.event_worlds.specs.Ending.{GoesBehind, IsBehind, IsGoneOn, IsOutside, MayGoOn, MayLeave, ScopeBecomes, StandsAt, TaskBecomes}
use Rattle.event_worlds.specs.Events.{Resume, only_if, by_resume}
use Rattle.event_worlds.specs.Jobs.{IsWeightedJob}
use Rattle.event_worlds.specs.Shown.{AreBoth, AreResultsOf, Becomes, IsTaskOf, IsBookOf, IsDoingThere, IsParked, Shows, WorldStays, is_scope, next_world}
use Rattle.event_worlds.specs.Shown.{scope_id, stake, whereabouts}
use Rattle.event_worlds.specs.World.{Stake, Live, Scope, World, Hand, Parked, task, put_task, scope, is_parked}
use Rattle.event_worlds.specs.World.{in_hand, hand_is_free}
use Rattle.types.specs.declared.scope_id.ScopeId.{ScopeId as rScopeId}
use Rattle.event_worlds.specs.declared.scope.WorldScope.{WorldScope as rScope}
use Rattle.event_worlds.specs.declared.task.WorldStake.{WorldStake as rStake}
use Rattle.event_worlds.specs.declared.task.WorldTask.{WorldTask as rTask}
use Rattle.event_worlds.specs.declared.task.Whereabouts.TheVariants.{Parked as rParked}
use Rattle.event_worlds.specs.declared.world.World.{World as rWorld}
use Rattle.event_worlds.proofs.Came.{results_came}
use Rattle.event_worlds.proofs.Histories.{nil_cons}
use Rattle.event_worlds.proofs.InHand.{does_in, gives_in, one_first}
use Rattle.event_worlds.proofs.Lookups.{scopes_same, task_path}
use Rattle.event_worlds.proofs.Outcomes.{results_are_own}
use Rattle.event_worlds.proofs.Staying.{stays_hands, stays_shown}
use Rattle.event_worlds.proofs.Tables.{there, not_there, tasks_put, paths_put, taken_hand, free_put, led_on}
use Rattle.event_worlds.proofs.Turning.{its_task}

-- ---- a run after a finish
module _ (j : Job) (ok : IsJob j) (c : Course) (q : Paused) (made : Made) (at : IsPausedOf j c q made) (rs : List TaskResult)
    (own : Each (IsOfOwnRun (program_of j) (needs_of (program_of j)) (budget_of j).steps (root (program_of j) (lists_of j) (budget_of j))) rs)
    (run : Run) (goes : GoesBehind q made rs run) where
  abbrev come_to : Settled
  come_to = settled_of goes.settled

  settles : settle (result_of at.state) rs ≡ Some come_to
  settles = ap (λ x. settle x rs) (sym at.made) ∙ sym goes.comes

  back : ComesBack goes.settled at.state
  back = comes_back at.state goes.settled (λ p. goes.owned p ∙ ap (λ (r : TaskResult). all_owned r p) at.made)

  abbrev behind : Course
  behind = record (further c) { receipts = c.receipts ++ rs ∷ [] }

  come_behind : HasCome j behind (record { frames = at.frames; state = handed at.before come_to at.state })
  come_behind =
      let task = its_task j ok c.start (record { frames = AtEnd at.before ∷ at.frames; state = at.state }) at.come.stands in
      let long = length_push at.state.extra.actions EndFinish in
      let was = at.come.after in
      record {
        stands = leaves rs at.come.stands
            (made_if_given (program_of j) (needs_of (program_of j)) (budget_of j).steps (root (program_of j) (lists_of j) (budget_of j)) rs own) settles;
        follows = leaves_follow (program_of j) (needs_of (program_of j)) (budget_of j).steps (root (program_of j) (lists_of j) (budget_of j))
            c.start c.receipts rs at.before at.frames at.state come_to task.awake settles at.come.follows;
        after = omega (arith, long, was);
        children = at.come.children;
        few = at.come.few;
      }

  pub run_behind : IsRunOf j behind run
  run_behind =
      let stands = goes.stands at.frames at.before at.state at.waits back in
      record {
        program = ap (λ plan. program plan.program.now) goes.plan ∙ at.program;
        nest = goes.nest ∙ at.nest;
        frames = at.frames;
        own = stands.own;
        shows = stands.shows;
        come = subst (λ (out : State Own). HasCome j behind (record { frames = at.frames; state = out })) (sym stands.is) come_behind;
      }

-- ---- a parked task
emptied : (s : rScope) → s.passed ≡ true → (b : Scope) → IsBookOf s b → IsBookOf (record s { results = None }) b
emptied s e b h = record {
  issued = h.issued;
  returned = h.returned;
  passed = h.passed;
  results = sym h.passed ∙ e;
  faults = h.faults;
}

pub results_of : (o : _) (rs : _) (b : Scope) → o ≡ Some rs → AreResultsOf o b → map task_result rs.items ≡ b.results
results_of None rs b e h = absurd (none-some _ e)
results_of (Some xs) rs b e h = ap (λ ys. map task_result ys.items) (sym (same_Some _ _ e)) ∙ h

-- ---- no task may leave
two_items : (xs : List rStake) → 1 < length xs → (a : rStake) × (b : rStake) × (rest : List rStake) × (xs ≡ a ∷ b ∷ rest)
two_items [] h = absurd (omega (arith, h))
two_items (a ∷ []) h = absurd (omega (arith, h))
two_items (a ∷ b ∷ rest) h = (a, b, rest, refl)

pub may_leave_so : (r : rWorld) (path : Path) (k : rTask) → get is_path r.tasks path ≡ Some k → k.place ≡ rParked
    → 1 < length k.stakes.items → (s : rStake) → s ≡ slice_index_or k.stakes.items 0 s → (b : rScope)
    → get is_scope r.scopes s.scope ≡ Some b → b.passed ≡ true → MayLeave r path
may_leave_so r path k at place two s front b there passed =
    let items = two_items k.stakes.items two in
    let same : s ≡ items.0 = front ∙ ap (λ xs. slice_index_or xs 0 s) items.3 in
    record {
      at = record {
        its = k;
        at = at;
        inner = items.0;
        outer = items.1 ∷ items.2;
        stakes = items.3;
        book = b;
        there = ap (λ (x : rStake). get is_scope r.scopes x.scope) (sym same) ∙ there;
      };
      place = place;
      next = items.1;
      outer = items.2;
      around = refl;
      passed = passed;
    }

none_passed : (x f : Bool) → (x && (false && f)) ≡ false
none_passed true f = refl
none_passed false f = refl

module _ (r : rWorld) (w : World) (h : Shows r w) (path : Path) (worker : ℕ) where
  abbrev pub leave_with : Live → List Stake → Option World
  leave_with t ss = by_resume r.job.w0 (does_in r.job) (gives_in r.job) worker t w ss

  -- the test of the innermost scope
  abbrev test_of : Live → Scope → Bool
  test_of t s = is_parked t.place && (s.passed && hand_is_free worker w.live)

  by_tests : (t : Live) (ss : List Stake) → ((s : Stake) (rest : List Stake) → ss ≡ s ∷ rest → (b : Scope)
      → scope s.scope w.scopes ≡ Some b → test_of t b ≡ false) → leave_with t ss ≡ None
  by_tests t [] f = refl
  by_tests t (s ∷ []) f = refl
  by_tests t (s ∷ o ∷ more) f = by_scope (scope s.scope w.scopes) refl
    where
      by_scope : (x : Option Scope) → scope s.scope w.scopes ≡ x
          → and_then x (λ b. only_if (test_of t b) (Some (record w {
            live = put_task (record t { receipts = t.receipts ++ b.results ∷ []; stakes = o ∷ more; place = Hand worker }) w.live;
          }))) ≡ None
      by_scope None e = refl
      by_scope (Some b) e =
          ap (λ x. only_if x (Some (record w {
            live = put_task (record t { receipts = t.receipts ++ b.results ∷ []; stakes = o ∷ more; place = Hand worker }) w.live;
          }))) (f s (o ∷ more) refl b e)

  by_task : (k : rTask) → get is_path r.tasks path ≡ Some k → ((t : Live) → IsTaskOf r.job.job k t → leave_with t t.stakes ≡ None)
      → next_world r.job (Resume worker path.turns.items None) w ≡ None
  by_task k at go =
      let t = there (IsTaskOf r.job.job) k (get is_path r.tasks path) (task path.turns.items w.live) (h.tasks path) at in
      ap (λ o. and_then o (λ t. leave_with t t.stakes)) t.1 ∙ go t.0 t.2

  pub unpassed_stays : (k : rTask) → get is_path r.tasks path ≡ Some k → (s : rStake) → s ≡ slice_index_or k.stakes.items 0 s
      → ((b : rScope) → get is_scope r.scopes s.scope ≡ Some b → b.passed ≡ false)
      → next_world r.job (Resume worker path.turns.items None) w ≡ None
  unpassed_stays k at s front none =
      by_task k at (λ t is. by_tests t t.stakes (λ x rest e b f. by_items t k.stakes.items refl x rest (is.stakes ∙ e) b f))
    where
      by_book : (o : Option rScope) → get is_scope r.scopes s.scope ≡ o → (b : Scope) → scope (scope_id s.scope) w.scopes ≡ Some b
          → b.passed ≡ false
      by_book None e b f =
          absurd (none-some _ (sym (not_there IsBookOf (get is_scope r.scopes s.scope) (scope (scope_id s.scope) w.scopes)
          (h.scopes s.scope) e) ∙ f))
      by_book (Some x) e b f =
          let g = there IsBookOf x (get is_scope r.scopes s.scope) (scope (scope_id s.scope) w.scopes) (h.scopes s.scope) e in
          ap (λ (s : Scope). s.passed) (same_Some _ _ (sym f ∙ g.1)) ∙ sym g.2.passed ∙ none x e

      by_items : (t : Live) (xs : List rStake) → k.stakes.items ≡ xs → (x : Stake) (rest : List Stake)
          → map stake k.stakes.items ≡ x ∷ rest → (b : Scope) → scope x.scope w.scopes ≡ Some b → test_of t b ≡ false
      by_items t [] items x rest e b f = absurd (nil_cons (sym (ap (map stake) items) ∙ e))
      by_items t (y ∷ ys) items x rest e b f =
          let same : s ≡ y = front ∙ ap (λ xs. slice_index_or xs 0 s) items in
          let head : stake y ≡ x = same_head (sym (ap (map stake) items) ∙ e) in
          let there_so = ap (λ (z : Stake). scope z.scope w.scopes) (ap stake same ∙ head) ∙ f in
          ap (λ z. is_parked t.place && (z && hand_is_free worker w.live)) (by_book (get is_scope r.scopes s.scope) refl b there_so)
          ∙ none_passed (is_parked t.place) (hand_is_free worker w.live)

-- the new scope represents what the old one represented
both_still : {A B : Type 0} (Are : A → B → Type 0) (b : Bool) (to was : A) (o : Option A) (q : Option B)
    → ((x : B) → Are was x → Are to x) → (b ≡ true → AreBoth Are (Some was) q) → AreBoth Are o q
    → AreBoth Are (if b then Some to else o) q
both_still Are true to was o (Some x) still here other = still x (here refl)
both_still Are true to was o None still here other = here refl
both_still Are false to was o q still here other = other

scope_keeps : (r : rWorld) (w : World) → Shows r w → (id : rScopeId) (s to : rScope) (new : rWorld) → get is_scope r.scopes id ≡ Some s
    → ((b : Scope) → IsBookOf s b → IsBookOf to b)
    → ((q : rScopeId) → get is_scope new.scopes q ≡ (if is_scope id q then Some to else get is_scope r.scopes q))
    → Shows (record r { scopes = new.scopes }) w
scope_keeps r w h id s to new at still each = record {
  events = h.events;
  led = h.led;
  tasks = h.tasks;
  paths = h.paths;
  scopes = λ q. subst (λ o. AreBoth IsBookOf o (scope (scope_id q) w.scopes)) (sym (each q))
      (both_still IsBookOf (is_scope id q) to s (get is_scope r.scopes q) (scope (scope_id q) w.scopes) still
      (λ e. subst (λ x. AreBoth IsBookOf (Some s) (scope x w.scopes)) (scopes_same (scope_id id) (scope_id q) e)
      (subst (λ o. AreBoth IsBookOf o (scope (scope_id id) w.scopes)) at (h.scopes id))) (h.scopes q));
  hands = h.hands;
  told = h.told;
}

-- ---- a parked task continues
module _ (old : rWorld) (ok : IsWeightedJob old.job) (path : Path) (m : MayLeave old path) (hs : rWorld)
    (same_hands : (v : ℕ) → contains nat_eq hs.hands v ≡ contains nat_eq old.hands v) where
  abbrev roomy : rWorld
  roomy = record old { hands = hs.hands }

  pub roomy_stays : WorldStays old roomy
  roomy_stays = stays_hands old hs.hands same_hands

  pub roomy_shown : (w : World) → Shows old w → Shows roomy w
  roomy_shown = stays_shown old roomy roomy_stays

  abbrev pub roomy_stands : StandsAt roomy path
  roomy_stands = record {
    its = m.at.its;
    at = m.at.at;
    inner = m.at.inner;
    outer = m.at.outer;
    stakes = m.at.stakes;
    book = m.at.book;
    there = m.at.there;
  }

  module _ (results : List Made) (them : (b : Scope) → AreResultsOf m.at.book.results b → map task_result results ≡ b.results) where
    -- facts about it in a represented world
    record Waiting (w : World) : Type 0 where
      its : Live
      lives : task path.turns.items w.live ≡ Some its
      is : IsTaskOf old.job.job m.at.its its
      place : its.place ≡ Parked
      parked : IsParked old.job.job (course_of its) m.at.its.doing
      open parked use {before, last, at as doing}
      book : Scope
      found : scope (scope_id m.at.inner.scope) w.scopes ≡ Some book
      books : IsBookOf m.at.book book
      are : map task_result results ≡ book.results

    waiting : (w : World) → Shows old w → Waiting w
    waiting w h =
        let t = there (IsTaskOf old.job.job) m.at.its (get is_path old.tasks path) (task path.turns.items w.live) (h.tasks path) m.at.at in
        let b = there IsBookOf m.at.book (get is_scope old.scopes m.at.inner.scope) (scope (scope_id m.at.inner.scope) w.scopes)
        (h.scopes m.at.inner.scope) m.at.there in
        let place : t.0.place ≡ Parked = sym t.2.place ∙ ap whereabouts m.place in
        record {
          its = t.0;
          lives = t.1;
          is = t.2;
          place = place;
          parked = subst (λ q. IsDoingThere old.job.job q (course_of t.0) m.at.its.doing) place t.2.doing;
          book = b.0;
          found = b.1;
          books = b.2;
          are = them b.0 b.2.results;
        }

  -- its scope's results are what it listed
  pub may_go : (w0 : World) → Shows old w0 → MayGoOn roomy path
  may_go w0 h0 a q made results is kept =
      let task : m.at.its ≡ a.its = same_Some _ _ (sym m.at.at ∙ a.at) in
      let inner : m.at.inner ≡ a.inner
      = (one_first m.at.its.stakes.items m.at.outer a.outer m.at.inner a.inner m.at.stakes (ap (λ (k : rTask). k.stakes.items) task ∙ a.stakes)).0
      in
      let book : m.at.book ≡ a.book
      = same_Some _ _ (sym m.at.there ∙ ap (λ (s : rStake). get is_scope old.scopes s.scope) inner ∙ a.there) in
      let x = waiting results.items (λ b h. results_of m.at.book.results results b (ap (λ (s : rScope). s.results) book ∙ kept) h) w0 h0 in
      let paused = subst (IsDoing old.job.job x.before) (ap (λ (k : rTask). k.doing) task ∙ is) x.doing in
      let came = results_came (program_of old.job.job) ok.job.sound ok.job.accepted old.job.w0 ok.least (lists_of old.job.job) (budget_of old.job.job)
      ok.job.fits h0.events w0 h0.led (scope_id m.at.inner.scope) x.book x.found in
      subst (λ rs. GiveBack (task_result made) rs) (sym x.are)
      (subst (λ y. GiveBack y x.book.results) (sym paused.1.made)
      (give_back (program_of old.job.job) ok.job.sound ok.job.accepted (lists_of old.job.job) (budget_of old.job.job) ok.job.fits x.before.start
      (record { frames = AtEnd paused.1.before ∷ paused.1.frames; state = paused.1.state }) paused.1.come.stands x.book.results
      (each_more (IsTaskResult (program_of old.job.job) (lists_of old.job.job) (budget_of old.job.job))
      (IsMadeByTask (program_of old.job.job) (lists_of old.job.job) (budget_of old.job.job)) x.book.results (λ r k. has_ended k) came)))

  module _ (r2 : rWorld) (others2 : r2 ≡ record old { scopes = r2.scopes; hands = hs.hands })
      (taken : ScopeBecomes roomy r2 m.at.inner.scope (λ to. to ≡ record m.at.book { results = None })) where
    taken_shown : (w : World) → Shows old w → Shows (record old { scopes = r2.scopes; hands = hs.hands }) w
    taken_shown w h =
        scope_keeps roomy w (roomy_shown w h) m.at.inner.scope m.at.book taken.to r2 m.at.there
        (λ b is. subst (λ x. IsBookOf x b) (sym taken.fits) (emptied m.at.book m.passed b is)) taken.each

    pub same_at : get is_path r2.tasks path ≡ Some m.at.its
    same_at = ap (λ (r : rWorld). get is_path r.tasks path) others2 ∙ m.at.at

    module _ (results : List Made) (them : (b : Scope) → AreResultsOf m.at.book.results b → map task_result results ≡ b.results) where
      module _ (r3 : rWorld) (others3 : r3 ≡ record r2 { tasks = r3.tasks }) where
        both_others : r3 ≡ record old { tasks = r3.tasks; scopes = r2.scopes; hands = hs.hands }
        both_others = others3 ∙ ap (λ (r : rWorld). record r { tasks = r3.tasks }) others2

        each_task : (to : rTask) → ((q : Path) → get is_path r3.tasks q ≡ (if is_path path q then Some to else get is_path r2.tasks q))
            → (q : Path) → get is_path r3.tasks q ≡ (if is_path path q then Some to else get is_path old.tasks q)
        each_task to each q =
            each q ∙ ap (λ (r : rWorld). if is_path path q then Some to else get is_path r.tasks q) others2

        module _ (worker : ℕ) (free : contains nat_eq old.hands worker ≡ false)
            (behind : TaskBecomes r2 r3 path (IsBehind worker (map task_result results) m.at.its)) (last : rWorld)
            (hand : (v : ℕ) → contains nat_eq last.hands v ≡ (if nat_eq worker v then true else contains nat_eq r3.hands v)) where
          module _ (w : World) (h : Shows old w) where
            abbrev it : Waiting results them w
            it = waiting results them w h

            abbrev left : Live
            left = record it.its {
              receipts = it.its.receipts ++ it.book.results ∷ [];
              stakes = stake m.next ∷ map stake m.outer;
              place = Hand worker;
            }

            abbrev to : World
            to = record w { live = put_task left w.live }

            items : m.at.its.stakes.items ≡ m.at.inner ∷ m.next ∷ m.outer
            items = m.at.stakes ∙ ap (λ xs. m.at.inner ∷ xs) m.around

            room : hand_is_free worker w.live ≡ true
            room = not-false (hand_is_free worker w.live) (sym (h.hands worker) ∙ free)

            legal : next_world old.job (Resume worker path.turns.items None) w ≡ Some to
            legal =
                ap (λ o. and_then o (λ t. leave_with old w h path worker t t.stakes)) it.lives
                ∙ ap (leave_with old w h path worker it.its) (sym it.is.stakes ∙ ap (map stake) items)
                ∙ ap (λ o. and_then o (λ (b : Scope). only_if (test_of old w h path worker it.its b) (Some (with_book b)))) it.found
                ∙ ap (λ x. only_if (x && (it.book.passed && hand_is_free worker w.live)) (Some to)) (ap is_parked it.place)
                ∙ ap (λ x. only_if (x && hand_is_free worker w.live) (Some to)) (sym it.books.passed ∙ m.passed)
                ∙ ap (λ x. only_if x (Some to)) room
              where
                with_book : Scope → World
                with_book b = record w {
                  live = put_task (record it.its {
                    receipts = it.its.receipts ++ b.results ∷ [];
                    stakes = stake m.next ∷ map stake m.outer;
                    place = Hand worker;
                  }) w.live;
                }

            runs : IsDoing old.job.job (course_of left) behind.to.doing
            runs =
                let b = behind.fits in
                let paused = subst (IsDoing old.job.job it.before) b.was it.doing in
                let own = results_are_own (program_of old.job.job) (needs_of (program_of old.job.job)) old.job.w0 ok.least (lists_of old.job.job)
                (budget_of old.job.job) h.events w h.led (scope_id m.at.inner.scope) it.book it.found in
                let goes = subst (λ rs. GoesBehind b.paused b.made rs b.run) it.are b.goes in
                subst (IsDoing old.job.job (course_of left)) (sym b.is)
                (subst (λ (c : Course). IsRunOf old.job.job (record c { receipts = c.receipts ++ it.book.results ∷ [] }) b.run) it.last
                (run_behind old.job.job ok.job it.before b.paused b.made paused.1 it.book.results own b.run goes))

            its_new : IsTaskOf old.job.job behind.to left
            its_new = record {
              place = ap whereabouts behind.fits.place;
              stakes = ap (map stake) (behind.fits.stakes ∙ ap (drop 1) items);
              opened = behind.fits.opened ∙ it.is.opened;
              doing = runs;
            }

            parked_out : (v : ℕ) → in_hand it.its.place v ≡ false
            parked_out v = ap (λ q. in_hand q v) it.place

            named : it.its.path ≡ path.turns.items
            named = task_path path.turns.items w.live it.its it.lives

            shown : Shows (record old { tasks = r3.tasks; scopes = r2.scopes; hands = last.hands }) to
            shown = record {
              events = h.events ++ Resume worker path.turns.items None ∷ [];
              led = led_on (program_of old.job.job) old.job.w0 (lists_of old.job.job) (budget_of old.job.job) (Resume worker path.turns.items None) h.events w
                  to h.led legal;
              tasks = tasks_put old.job.job (get is_path old.tasks) (get is_path r3.tasks) path behind.to it.its left w.live h.tasks it.lives named
                  its_new (each_task behind.to behind.each);
              paths = paths_put left it.its w.live (ap (λ x. task x w.live) named ∙ it.lives) h.paths;
              scopes = (taken_shown w h).scopes;
              hands = λ v. hand v
                  ∙ ap (λ (r : rWorld). if nat_eq worker v then true else contains nat_eq r.hands v) both_others
                  ∙ ap (λ b. if nat_eq worker v then true else b) (same_hands v ∙ h.hands v)
                  ∙ taken_hand (nat_eq worker v) (hand_is_free v w.live)
                  ∙ ap not (sym (free_put v left it.its w.live (ap (λ x. task x w.live) named ∙ it.lives) (parked_out v)));
              told = h.told;
            }

          pub resumed : Becomes (Resume worker path.turns.items None) old (record r3 { hands = last.hands })
          resumed w h = (
            to w h,
            legal w h,
            subst (λ r. Shows r (to w h)) (sym (ap (λ (r : rWorld). record r { hands = last.hands }) both_others)) (shown w h),
          )

-- it has continued with the results of its scope, outside of this scope
pub behind_by : (r : rWorld) (path : Path) (a : StandsAt r path) (run : Run) (g : IsGoneOn r path a run) (worker : ℕ) (old new : rWorld)
    → TaskBecomes old new path (IsOutside worker run a.its) → TaskBecomes old new path (IsBehind worker (map task_result g.results.items) a.its)
behind_by r path a run g worker old new b = record {
  to = b.to;
  fits = record {
    paused = g.paused;
    made = g.made;
    was = g.was;
    run = run;
    is = b.fits.is;
    goes = g.goes;
    place = b.fits.place;
    opened = b.fits.opened;
    stakes = b.fits.stakes;
  };
  each = b.each;
}
