-- The outcome when the root's scope passes, by what the root has made and what its scope keeps.
use Rattle.std.proofs.Common.{◌≡◌, List, [], ◌∷◌, ◌++◌, Option, Some, None, refl, sym, ap, ◌∙◌, subst}
use Rattle.std.proofs.lemmas.Option.{same_Some}
use Rattle.std.specs.Prelude.{true, false, ◌&&◌, not, nat_eq, map}
use Rattle.std.specs.HashMap.{get}
use Rattle.shared_lemmas.proofs.Truths.{false_true}
use Rattle.types.specs.Outcome.{Outcome, outcome}
use Rattle.types.specs.Translation.{outcome as plain_outcome, is_path}
use Rattle.types.specs.declared.outcome.Outcome.{Outcome as rOutcome}
use Rattle.types.specs.declared.path.Path.{Path}
use Rattle.types.specs.declared.scope_id.ScopeId.{ScopeId as rScopeId}
use Rattle.effects.specs.Rounds.{needs_of}
use Rattle.task_run.specs.Given.{told_of}
use Rattle.task_run.specs.OwnRun.{Start}
use Rattle.task_run.specs.Results.{Settled, TaskResult, and_then}
use Rattle.task_run.specs.Runs.{root}
use Rattle.task_run.specs.Settling.{settle}
use Rattle.task_run.specs.Translation.{task_result}
use Rattle.task_run.specs.declared.result.TaskResult.{TaskResult as Made}
use Rattle.task_run.specs.Jobs.{program_of, lists_of, budget_of}
use Rattle.task_run.specs.declared.job.Job.{Job}
use Rattle.event_worlds.specs.Courses.{Course, course_of, IsEndOf}
use Rattle.event_worlds.specs.Events.{Event, Pass, only_if}
use Rattle.event_worlds.specs.Jobs.{IsWeightedJob}
use Rattle.event_worlds.specs.Replay.{hands_on}
use Rattle.event_worlds.specs.Shown.{IsTaskOf, IsDoingThere, IsTold, Shows, is_scope, scope_id}
use Rattle.event_worlds.specs.World.{Live, Scope, World, Whereabouts, Queue, Hand, Parked, task, scope, root_scope, has_passed, is_passed}
use Rattle.event_worlds.specs.Worlds.{outcome_of}
use Rattle.event_worlds.specs.declared.doing.TaskProgress.TheVariants.{AtEnd}
use Rattle.event_worlds.specs.declared.scope.WorldScope.{WorldScope as rScope}
use Rattle.event_worlds.specs.declared.task.WorldTask.{WorldTask as rTask}
use Rattle.event_worlds.specs.declared.world.World.{World as rWorld}
use Rattle.event_worlds.proofs.Behind.{results_of}
use Rattle.event_worlds.proofs.Came.{ends_with}
use Rattle.event_worlds.proofs.Moves.{passed_book, passed_there, passed_world, passing_book, pass_led}
use Rattle.event_worlds.proofs.NeverStuck.{outcome_told}
use Rattle.event_worlds.proofs.Tables.{there}

-- ---- the outcome is known already
passed_found : (o : Option Scope) → is_passed o ≡ true → (s : Scope) × (o ≡ Some s) × (s.passed ≡ true)
passed_found None e = false_true e
passed_found (Some s) e = (s, refl, e)

none_told : (o : Option Scope) (f : Scope → Option Outcome) → is_passed o ≡ false → and_then o (λ s. only_if s.passed (f s)) ≡ None
none_told None f e = refl
none_told (Some s) f e = ap (λ b. only_if b (f s)) e

module _ (r : rWorld) (ok : IsWeightedJob r.job) (w : World) (h : Shows r w) where
  pub told_is : (x : rOutcome) → r.told ≡ Some x → plain_outcome x ≡ outcome (program_of r.job.job) (lists_of r.job.job) (budget_of r.job.job)
  told_is x e = (subst (IsTold r.job.job (has_passed root_scope w)) e h.told).1

  pub told_there : (x : rOutcome) → r.told ≡ Some x
      → Some (plain_outcome x) ≡ outcome_of (program_of r.job.job) r.job.w0 (budget_of r.job.job) w
  told_there x e =
      let s = passed_found (scope root_scope w.scopes) (subst (IsTold r.job.job (has_passed root_scope w)) e h.told).0 in
      ap Some (told_is x e)
      ∙ sym (outcome_told (program_of r.job.job) ok.job.sound ok.job.accepted r.job.w0 ok.least (lists_of r.job.job) (budget_of r.job.job) ok.job.fits
      h.events w h.led s.0 s.1 s.2)

  pub told_not : r.told ≡ None → None ≡ outcome_of (program_of r.job.job) r.job.w0 (budget_of r.job.job) w
  told_not e = sym (none_told (scope root_scope w.scopes) _ (subst (IsTold r.job.job (has_passed root_scope w)) e h.told))

-- ---- the root has ended
-- at any location, it has reached its end with the same start and receipts
record AtLast (j : Job) (c : Course) (made : Made) : Type 0 where
  before : Course
  start : before.start ≡ c.start
  receipts : before.receipts ≡ c.receipts
  ended : IsEndOf j before made

at_last : (j : Job) (q : Whereabouts) (c : Course) (made : Made) → IsDoingThere j q c (AtEnd made) → AtLast j c made
at_last j (Queue v) c made h = record { before = c; start = refl; receipts = refl; ended = h.1 }
at_last j (Hand v) c made h = record { before = c; start = refl; receipts = refl; ended = h.1 }
at_last j Parked c made h = record {
  before = h.before;
  start = ap (λ (c : Course). c.start) h.last;
  receipts = ap (λ (c : Course). c.receipts) h.last;
  ended = h.at.1;
}

module _ (r : rWorld) (ok : IsWeightedJob r.job) (w : World) (h : Shows r w) (id : rScopeId) (named : scope_id id ≡ root_scope) (s : rScope)
    (at : get is_scope r.scopes id ≡ Some s) (complete : (not s.passed && nat_eq s.issued s.returned) ≡ true) where
  -- the world in which it has passed
  abbrev next : World
  next = passed_world r w h id s at complete

  abbrev events : List Event
  events = h.events ++ Pass (scope_id id) ∷ []

  abbrev book : Scope
  book = passed_book r w h id s at complete

  there_so : scope root_scope next.scopes ≡ Some book
  there_so = ap (λ i. scope i next.scopes) (sym named) ∙ passed_there r w h id s at complete

  pub root_passed : has_passed root_scope next ≡ true
  root_passed = ap is_passed there_so

  abbrev hands_on_so : Start → List (List TaskResult) → TaskResult
  hands_on_so = hands_on (program_of r.job.job) (needs_of (program_of r.job.job)) (budget_of r.job.job).steps r.job.w0

  abbrev told_by : Scope → Live → Option Outcome
  told_by s t = and_then (settle (hands_on_so t.start t.receipts) s.results) (λ x. Some (told_of (program_of r.job.job) x))

  abbrev told_in : Scope → Option Outcome
  told_in s = only_if s.passed (and_then (task [] w.live) (told_by s))

  module _ (path : Path) (nameless : path.turns.items ≡ []) (k : rTask) (has : get is_path r.tasks path ≡ Some k) (made : Made)
      (is : k.doing ≡ AtEnd made) (results : _) (kept : s.results ≡ Some results) where
    live : (t : Live) × (task path.turns.items w.live ≡ Some t) × IsTaskOf r.job.job k t
    live = there (IsTaskOf r.job.job) k (get is_path r.tasks path) (task path.turns.items w.live) (h.tasks path) has

    last : AtLast r.job.job (course_of live.0) made
    last =
        at_last r.job.job live.0.place (course_of live.0) made
        (subst (IsDoingThere r.job.job live.0.place (course_of live.0)) is live.2.doing)

    are : map task_result results.items ≡ book.results
    are =
        let b = passing_book r w h id s at complete in
        results_of s.results results b.0 kept b.2.results

    handed : hands_on_so live.0.start live.0.receipts ≡ task_result made
    handed =
        ap (λ x. hands_on_so x live.0.receipts) (sym last.start) ∙ ap (λ rs. hands_on_so last.before.start rs) (sym last.receipts)
        ∙ ends_with (program_of r.job.job) (needs_of (program_of r.job.job)) (budget_of r.job.job).steps
        (root (program_of r.job.job) (lists_of r.job.job) (budget_of r.job.job)) last.before.start last.before.receipts last.ended.state
        last.ended.come.follows
        ∙ sym last.ended.is

    told_so : (x : Settled) → Some x ≡ settle (task_result made) (map task_result results.items)
        → outcome_of (program_of r.job.job) r.job.w0 (budget_of r.job.job) next ≡ Some (told_of (program_of r.job.job) x)
    told_so x e =
        ap (λ o. and_then o told_in) there_so
        ∙ ap (λ q. and_then (task q w.live) (told_by book)) (sym nameless)
        ∙ ap (λ o. and_then o (told_by book)) live.1
        ∙ ap (λ y. and_then (settle y book.results) (λ x. Some (told_of (program_of r.job.job) x))) handed
        ∙ ap (λ rs. and_then (settle (task_result made) rs) (λ x. Some (told_of (program_of r.job.job) x))) (sym are)
        ∙ ap (λ o. and_then o (λ x. Some (told_of (program_of r.job.job) x))) (sym e)

    one_thread_so : (x : Settled) → Some x ≡ settle (task_result made) (map task_result results.items)
        → told_of (program_of r.job.job) x ≡ outcome (program_of r.job.job) (lists_of r.job.job) (budget_of r.job.job)
    one_thread_so x e =
        same_Some _ _ (sym (told_so x e)
        ∙ outcome_told (program_of r.job.job) ok.job.sound ok.job.accepted r.job.w0 ok.least (lists_of r.job.job) (budget_of r.job.job) ok.job.fits
        events next (pass_led r w h id s at complete) book there_so refl)

    -- ---- copies of both
    module _ (m : Made) (same : task_result m ≡ task_result made) (rs : List Made)
        (same_results : map task_result rs ≡ map task_result results.items) where
      -- settle to the one-thread outcome
      pub copies_tell : (x : Settled) → Some x ≡ settle (task_result m) (map task_result rs)
          → told_of (program_of r.job.job) x ≡ outcome (program_of r.job.job) (lists_of r.job.job) (budget_of r.job.job)
      copies_tell x e =
          one_thread_so x (e ∙ ap (λ y. settle y (map task_result rs)) same ∙ ap (settle (task_result made)) same_results)
