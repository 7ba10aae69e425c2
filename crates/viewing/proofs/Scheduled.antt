-- From a run to a page of its schedules.
use Rattle.std.proofs.Common.{◌≡◌, inl, inr, ℕ, ℤ, List, [], Option, Some, None, Result, ◌∙◌, map, refl, subst, sym, true≢false}
use Rattle.std.specs.Global.{Global}
use Rattle.std.specs.Prelude.{◌⊎◌, IsErrAnd, MatchOption, Vec, false, length, true}
use Rattle.types.specs.Code.{Program}
use Rattle.types.specs.Outcome.{Budget}
use Rattle.types.specs.Translation.{budget, input as lists_in}
use Rattle.types.specs.Typed.{code_of}
use Rattle.task_run.specs.Jobs.{budget_of, lists_of, program_of}
use Rattle.events.specs.Events.{Event as Happening, event as event_of}
use Rattle.events.specs.declared.event.Event.{Event}
use Rattle.event_worlds.specs.Replay.{Legal}
use Rattle.event_worlds.specs.Replaying.{comes}
use Rattle.event_worlds.specs.Walks.{IsOver}
use Rattle.event_worlds.specs.World.{World, has_passed, root_scope}
use Rattle.event_worlds.specs.Worlds.{IsSpent, LeadsTo}
use Rattle.event_worlds.specs.declared.job.WeightedJob.{WeightedJob}
use Rattle.event_worlds.specs.declared.walk.Walk.{Walk}
use Rattle.trace_text.specs.Headers.{TraceHeader, header_of}
use Rattle.trace_text.specs.declared.header.Header.{Header}
use Rattle.command_line.specs.Requests.{Settings}
use Rattle.command_line.specs.declared.request.Command.TheVariants.{Run}
use Rattle.failures.specs.Failures.{TellsUnwritten}
use Rattle.files.specs.Held.{Held}
use Rattle.failures.specs.declared.failure.Failure.{Failure}
use Rattle.failures.specs.declared.failure.Failure.TheVariants.{CannotWrite, CannotWriteOutput, NoMemory}
use Rattle.commands.specs.Answers.{Done, IsExplored, TellsNotBegun}
use Rattle.commands.proofs.Answering.{IsOther, not_begun_other, other_failure, passed_on}
use Rattle.trace_page.specs.Pages.{IsPage}
use Rattle.viewing.specs.Views.{AnswersSchedules, AreShown, AreWhole, ExplainsSchedules, IsSchedulesPage, IsTooLong}
use Rattle.viewing.specs.Views.{ShowsSchedules, budget_in, picture_name, runless_header, schedule_header, traced_of}
use Rattle.viewing.specs.declared.traces.JudgedTrace.{JudgedTrace}
use Rattle.viewing.proofs.Viewing.{comes_same}

module _ (s : Settings) (held : Held) (text : List ℕ) where
  -- a page that couldn't be written
  unwritten : IsExplored s held text → (f : Failure) → TellsUnwritten (picture_name s) f → ExplainsSchedules s held text f × IsOther f
  unwritten run (CannotWrite told) is = ((run, is), tt)
  unwritten run NoMemory is = (tt, tt)
  unwritten run _ is = absurd is

  pub schedules_unwritten : IsExplored s held text → (name : List ℕ) → name ≡ picture_name s → (b : Option (List ℕ))
      (r : Result ℕ Failure) (f : Failure) → IsErrAnd r (λ y. y ≡ f) → TellsUnwritten name f
      → Done (AnswersSchedules s held text) (ExplainsSchedules s held text) b b r
  schedules_unwritten run name same b r f is tells =
      let why = unwritten run f (subst (λ (n : List ℕ). TellsUnwritten n f) same tells) in
      passed_on (AnswersSchedules s held text) (ExplainsSchedules s held text) b r f is why.0 (other_failure f why.1)

  -- a text without an accepted program, or without an input
  explained : (f : Failure) → TellsNotBegun s held text f → ExplainsSchedules s held text f
  explained (CannotWrite name) (inl none) = absurd none
  explained (CannotWrite name) (inr lack) = absurd lack.why
  explained CannotWriteOutput told = tt
  explained NoMemory told = tt
  explained f told = told

  pub schedules_not_begun : (b : Option (List ℕ)) (r : Result ℕ Failure) (f : Failure) → IsErrAnd r (λ y. y ≡ f)
      → TellsNotBegun s held text f → Done (AnswersSchedules s held text) (ExplainsSchedules s held text) b b r
  schedules_not_begun b r f is told =
      passed_on (AnswersSchedules s held text) (ExplainsSchedules s held text) b r f is (explained f told)
      (other_failure f (not_begun_other Run tt s held text b (λ code accepted. accepted) f told))

  -- no memory
  pub schedules_without_memory : (b : Option (List ℕ)) (r : Result ℕ Failure) (f : Failure) → IsErrAnd r (λ y. y ≡ f)
      → f ≡ NoMemory → Done (AnswersSchedules s held text) (ExplainsSchedules s held text) b b r
  schedules_without_memory b r f is memory =
      passed_on (AnswersSchedules s held text) (ExplainsSchedules s held text) b r f is
      (subst (ExplainsSchedules s held text) (sym memory) tt) (other_failure f (subst IsOther (sym memory) tt))

  -- the page of a run that was begun
  pub schedules_page : (run : IsExplored s held text) (name : List ℕ) (t : JudgedTrace) (bytes : List ℕ)
      → run.code ≡ code_of t.given.accepted.typed → run.input ≡ lists_in t.given.input
      → AreShown (code_of t.given.accepted.typed) (lists_in t.given.input) t.trace.header t.trace.events.items
      → ShowsSchedules name text t bytes → IsSchedulesPage name s held text bytes
  schedules_page run name t bytes code input are_shown shows =
      let header = t.trace.header in let events = t.trace.events.items in
      record {
        run = run;
        header = header;
        events = events;
        shown = subst (λ (p : Program). AreShown p run.input header events) (sym code)
            (subst (λ (values : List (List ℤ)). AreShown (code_of t.given.accepted.typed) values header events) (sym input) are_shown);
        labels = shows.labels;
        page = subst
            (λ (p : Program). IsPage (record (traced_of t name text [] shows.labels) { code = p; input = run.input }) bytes)
            (sym code)
            (subst (λ (values : List (List ℤ)). IsPage (record (traced_of t name text [] shows.labels) { input = values }) bytes)
            (sym input) shows.page);
      }

-- ---- what a page shows

-- events under the settings of a header
pub led_under : (p : Program) (input : List (List ℤ)) (h : Header) (t : TraceHeader) → header_of h ≡ t
    → (es : List Happening) (w : World) → LeadsTo p h.w0 input (budget h.budget) es w → LeadsTo p t.w0 input (budget_in t) es w
led_under p input h t same es w legal = subst (λ (x : TraceHeader). LeadsTo p x.w0 input (budget_in x) es w) same legal

-- a walk that can't continue has passed, or not
spent : (w : World) (Spent : Type 0) → has_passed root_scope w ≡ false → (has_passed root_scope w ≡ true) ⊎ Spent → Spent
spent w Spent still (inl passed) = absurd (true≢false (sym passed ∙ still))
spent w Spent still (inr is) = is

spent_or_long : (k : WeightedJob) (walk : Walk) → walk.world.job ≡ k → IsOver 8003 walk → (w : World)
    → comes k walk.events.items ≡ Legal w → has_passed root_scope w ≡ false
    → IsSpent (program_of k.job) k.w0 (budget_of k.job) w ⊎ (length walk.events.items ≡ 8003)
spent_or_long k walk same (inl stopped) w legal still =
    inl (subst (λ (j : WeightedJob). IsSpent (program_of j.job) j.w0 (budget_of j.job) w) same
    (spent w _ still (stopped w (comes_same walk.world.job k same walk.events.items walk.events.items refl ∙ legal))))
spent_or_long k walk same (inr long) w legal still = inr long

-- a walk that hasn't passed is too long
pub too_long : (k : WeightedJob) (walk : Walk) → walk.world.job ≡ k → (t : TraceHeader) → k.w0 ≡ t.w0
    → budget_of k.job ≡ budget_in t → IsOver 8003 walk → (w : World) → comes k walk.events.items ≡ Legal w
    → has_passed root_scope w ≡ false → IsTooLong (program_of k.job) (lists_of k.job) t
too_long k walk job t weight limits over w legal still =
    let p = program_of k.job in let events = walk.events.items in
    record {
      events = events;
      world = w;
      legal = subst (λ (n : ℕ). LeadsTo p n (lists_of k.job) (budget_in t) (map event_of events) w) weight
          (subst (λ (b : Budget). LeadsTo p k.w0 (lists_of k.job) b (map event_of events) w) limits legal);
      goes_on = still;
      so_far = subst (λ (n : ℕ). IsSpent p n (budget_in t) w ⊎ (length events ≡ 8003)) weight
          (subst (λ (b : Budget). IsSpent p k.w0 b w ⊎ (length events ≡ 8003)) limits
          (spent_or_long k walk job over w legal still));
    }

-- what was found is shown
pub run_shown : (p : Program) (input : List (List ℤ)) (h : Header) (found : Option (Vec Event Global)) (es : Vec Event Global)
    → found ≡ Some es
    → MatchOption found (IsTooLong p input schedule_header) (λ es. AreWhole p input schedule_header es.items)
    → header_of h ≡ schedule_header → AreShown p input h es.items
run_shown p input h found es is are settings =
    AreShown.a_run settings
    (subst (λ (o : Option (Vec Event Global)). MatchOption o (IsTooLong p input schedule_header) (λ es. AreWhole p input schedule_header es.items))
    is are)

pub no_run_shown : (p : Program) (input : List (List ℤ)) (h : Header) (found : Option (Vec Event Global)) (es : List Event)
    → found ≡ None → MatchOption found (IsTooLong p input schedule_header) (λ es. AreWhole p input schedule_header es.items)
    → header_of h ≡ runless_header → es ≡ [] → AreShown p input h es
no_run_shown p input h found es is are settings none =
    AreShown.no_run settings none
    (subst (λ (o : Option (Vec Event Global)). MatchOption o (IsTooLong p input schedule_header) (λ es. AreWhole p input schedule_header es.items))
    is are)
