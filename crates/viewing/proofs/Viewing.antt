-- From a trace, or from the reason why there is none, to what was done.
use Rattle.std.proofs.Common.{◌≡◌, inl, inr, ℕ, ℤ, List, [], Option, Result, Ok, Err, String, Global, ap, ◌∙◌, refl, string_bytes, subst, sym}
use Rattle.std.specs.Prelude.{IfOk, IsErrAnd}
use Rattle.std.specs.declared.alloc.AllocError.{AllocError}
use Rattle.types.specs.Code.{Program}
use Rattle.types.specs.Translation.{input as lists_in}
use Rattle.types.specs.Typed.{code_of}
use Rattle.types.specs.declared.budget.Budget.{Budget}
use Rattle.race_checker.specs.Clash.{IsAccepted}
use Rattle.events.specs.declared.event.Event.{Event}
use Rattle.event_worlds.specs.Replay.{IllegalAt, Legal}
use Rattle.event_worlds.specs.Replaying.{comes, IsRefused}
use Rattle.event_worlds.specs.World.{World}
use Rattle.event_worlds.specs.declared.error.ReplayError.{ReplayError}
use Rattle.event_worlds.specs.declared.error.ReplayError.TheVariants.{IllegalAt as rIllegalAt}
use Rattle.event_worlds.specs.declared.job.WeightedJob.{WeightedJob}
use Rattle.trace_text.specs.Headers.{header_of}
use Rattle.trace_text.specs.declared.format.Format.{Format}
use Rattle.trace_text.specs.declared.format.Format.TheVariants.{Two}
use Rattle.trace_text.specs.declared.header.Header.{Header}
use Rattle.command_line.specs.Requests.{Settings}
use Rattle.command_line.specs.declared.request.Command.{Command}
use Rattle.failures.specs.Failures.{TellsNotUtf8, TellsUnwritten}
use Rattle.files.specs.Held.{Held, HasNoText, TellsNoInput}
use Rattle.failures.specs.declared.failure.Failure.{Failure}
use Rattle.failures.specs.declared.failure.Failure.TheVariants.{CannotRead, NotUtf8, Syntax, Types}
use Rattle.failures.specs.declared.failure.Failure.TheVariants.{Race, NoMemoryInCheck, Input, NoMemory}
use Rattle.failures.specs.declared.failure.Failure.TheVariants.{Trace, Illegal, CannotWrite}
use Rattle.commands.specs.Answers.{IsCodeOf, IsExplored, TellsNotAccepted, TellsNotBegun}
use Rattle.commands.proofs.Answering.{IsOther, other_failure, passed_on}
use Rattle.viewing.specs.Views.{AnswersTrace, AreLegal, Draws, ExplainsTrace, HasTrace, HoldsTrace, IsDrawnAs, IsDrawnTo, IsJudged}
use Rattle.viewing.specs.Views.{IsInFormatTwo, ShowsTrace, TellsIllegal, text_in_format_two, traced_of}
use Rattle.viewing.specs.Views.{TellsNoLines, TellsNoTrace, TellsTrace, Views, command_of, picture_name, trace_name}
use Rattle.trace_page.specs.Pages.{IsPage}
use Rattle.viewing.specs.declared.drawing.Form.{Form}
use Rattle.viewing.specs.declared.drawing.Form.TheVariants.{Html, Picture, Spans}
use Rattle.viewing.specs.declared.traces.JudgedTrace.{JudgedTrace}

-- ---- a trace's file

-- bytes that are not text
pub no_text_no_lines : (held : Held) (name : List ℕ) (f : Failure) → TellsNotUtf8 name f → HasNoText held name
    → TellsNoLines held name f
no_text_no_lines held name (NotUtf8 told) is bytes = (is, bytes)
no_text_no_lines held name NoMemory is bytes = tt
no_text_no_lines held name _ is bytes = absurd is

-- it has the trace, even if other files were read before
pub holds_so : (later held : Held) → later ≡ held → (name known : List ℕ) → name ≡ known → (h : Header) (es : List Event)
    → HoldsTrace later name h es → HoldsTrace held known h es
holds_so later held keeps name known same h es holds =
    subst (λ (n : List ℕ). HoldsTrace held n h es) same (subst (λ (g : Held). HoldsTrace g name h es) keeps holds)

-- ---- its events

-- where events lead, for equal jobs
pub comes_same : (j k : WeightedJob) → j ≡ k → (es fs : List Event) → es ≡ fs → comes j es ≡ comes k fs
comes_same j k same es fs are = ap (λ (i : WeightedJob). comes i es) same ∙ ap (comes k) are

pub refused_at : (j : WeightedJob) (es : List Event) (e : ReplayError) (n : ℕ) → e ≡ rIllegalAt n → IsRefused j es e
    → comes j es ≡ IllegalAt n
refused_at j es e n is refused = subst (IsRefused j es) is refused

module _ (s : Settings) (held : Held) (text : List ℕ) where
  -- ---- why there is no trace

  not_accepted : (f : Failure) → TellsNotAccepted text f → TellsNoTrace s held text f
  not_accepted (Syntax e) told = told
  not_accepted (Types e) told = told
  not_accepted (Race found) told = told
  not_accepted NoMemoryInCheck told = told
  not_accepted _ told = absurd told

  no_input : (code : Program) → IsCodeOf text code → IsAccepted code → (f : Failure)
      → TellsNoInput s.input held code.arrays f → TellsNoTrace s held text f
  no_input code is_code is_run (CannotRead name) told =
      inl (record { code = code; is_code = is_code; is_run = is_run; why = told })
  no_input code is_code is_run (NotUtf8 name) told =
      inl (record { code = code; is_code = is_code; is_run = is_run; why = told })
  no_input code is_code is_run (Input e) told = record { code = code; is_code = is_code; is_run = is_run; why = told }
  no_input code is_code is_run NoMemory told = tt
  no_input code is_code is_run _ told = absurd told

  pub not_begun : (f : Failure) → TellsNotBegun s held text f → TellsNoTrace s held text f
  not_begun f (inl refused) = not_accepted f refused
  not_begun f (inr lack) = no_input lack.code lack.is_code lack.is_run f lack.why

  pub not_legal : (run : IsExplored s held text) (h : Header) (es : List Event) → HoldsTrace held (trace_name s) h es
      → (f : Failure) → TellsIllegal run.code run.input h es f → TellsNoTrace s held text f
  not_legal run h es holds (Illegal n) told =
      record { run = run; header = h; events = es; holds = holds; why = told }
  not_legal run h es holds NoMemory told = tt
  not_legal run h es holds _ told = absurd told

  -- ---- the answer then

  pub explained : (c : Command) (f : Failure) → TellsNoTrace s held text f → ExplainsTrace c s held text f
  explained c (CannotRead name) told = told
  explained c (NotUtf8 name) told = told
  explained c (Syntax e) told = told
  explained c (Types e) told = told
  explained c (Race found) told = told
  explained c NoMemoryInCheck told = told
  explained c (Input e) told = told
  explained c (Trace e) told = told
  explained c (Illegal n) told = told
  explained c NoMemory told = tt
  explained c _ told = absurd told

  pub other : (f : Failure) → TellsNoTrace s held text f → IsOther f
  other (CannotRead name) told = tt
  other (NotUtf8 name) told = tt
  other (Syntax e) told = tt
  other (Types e) told = tt
  other (Race found) told = tt
  other NoMemoryInCheck told = tt
  other (Input e) told = tt
  other (Trace e) told = tt
  other (Illegal n) told = tt
  other NoMemory told = tt
  other _ told = absurd told

  pub views_no_trace : (c : Command) (b : Option (List ℕ)) (r : Result ℕ Failure) (f : Failure)
      → IsErrAnd r (λ y. y ≡ f) → TellsNoTrace s held text f → Views c s held text b b r
  views_no_trace c b r f is told =
      passed_on (AnswersTrace c s held text) (ExplainsTrace c s held text) b r f is (explained c f told)
      (other_failure f (other f told))

  -- a picture that couldn't be written
  unwritten : (c : Command) → Draws c → IsDrawnTo s held text (picture_name s) → (f : Failure)
      → TellsUnwritten (picture_name s) f → ExplainsTrace c s held text f × IsOther f
  unwritten c draws drawn (CannotWrite told) is =
      ((draws, record { header = drawn.header; events = drawn.events; trace = drawn.trace; name = is }), tt)
  unwritten c draws drawn NoMemory is = (tt, tt)
  unwritten c draws drawn _ is = absurd is

  pub views_unwritten : (c : Command) → Draws c → (h : Header) (es : List Event) → HasTrace s held text h es
      → (name : List ℕ) → name ≡ picture_name s → (b : Option (List ℕ)) (r : Result ℕ Failure) (f : Failure)
      → IsErrAnd r (λ y. y ≡ f) → TellsUnwritten name f → Views c s held text b b r
  views_unwritten c draws h es trace name same b r f is tells =
      let why = unwritten c draws (record { header = h; events = es; trace = trace; name = refl }) f
      (subst (λ (n : List ℕ). TellsUnwritten n f) same tells) in
      passed_on (AnswersTrace c s held text) (ExplainsTrace c s held text) b r f is why.0 (other_failure f why.1)

-- ---- a form in which a trace is drawn

pub draws_form : (form : Form) → Draws (command_of form)
draws_form Picture = tt
draws_form Spans = tt
draws_form (Html program) = tt

pub form_tells : (form : Form) (h : Header) (es : List Event) → TellsTrace (command_of form) h es []
form_tells Picture h es = refl
form_tells Spans h es = refl
form_tells (Html program) h es = refl

-- a drawing isn't specified, unless it is a page
pub anything : (r : Result (String Global) AllocError) → IfOk r (λ text. Unit {0})
anything (Ok text) = tt
anything (Err e) = tt

pub drawn_so : (form known : Form) → form ≡ known → (s : Settings) (text : List ℕ) (t : JudgedTrace) (r : Result (String Global) AllocError)
    → IfOk r (λ drawn. ShowsTrace known s text t (string_bytes drawn)) → IfOk r (λ drawn. ShowsTrace form s text t (string_bytes drawn))
drawn_so form known same s text t r shows =
    subst (λ (f : Form). IfOk r (λ drawn. ShowsTrace f s text t (string_bytes drawn))) (sym same) shows

module _ (s : Settings) (held : Held) (text : List ℕ) (t : JudgedTrace) (judged : IsJudged s held text t) (bytes : List ℕ) where
  -- with the program and the input of the run
  page_of_run : (name labels : List ℕ) → IsPage (traced_of t name text (trace_name s) labels) bytes
      → IsPage (record (traced_of t name text (trace_name s) labels) { code = judged.trace.run.code; input = judged.trace.run.input }) bytes
  page_of_run name labels page =
      subst (λ (p : Program). IsPage (record (traced_of t name text (trace_name s) labels) { code = p; input = judged.trace.run.input }) bytes)
      (sym judged.code)
      (subst (λ (values : List (List ℤ)). IsPage (record (traced_of t name text (trace_name s) labels) { input = values }) bytes)
      (sym judged.input) page)

  pub drawn_as : (form : Form) → ShowsTrace form s text t bytes → IsDrawnAs form s held text bytes
  drawn_as Picture shows = record { header = t.trace.header; events = t.trace.events.items; trace = judged.trace }
  drawn_as Spans shows = record { header = t.trace.header; events = t.trace.events.items; trace = judged.trace }
  drawn_as (Html program) shows = record {
    header = t.trace.header;
    events = t.trace.events.items;
    trace = judged.trace;
    labels = shows.labels;
    page = page_of_run program.now shows.labels shows.page;
  }

-- ---- format 2

-- the same header in format 2
pub upgraded_header : (h to : Header) → to.format ≡ Two → to.budget ≡ h.budget → to.w0 ≡ h.w0 → to.workers ≡ h.workers
    → header_of to ≡ record (header_of h) { format = Two }
upgraded_header h to format budget w0 workers =
    ap (λ (f : Format). record (header_of to) { format = f }) format
    ∙ ap (λ (b : Budget). record (header_of (record to { format = Two })) { steps = b.steps; nest = b.nest }) budget
    ∙ ap (λ (w : ℕ). record (header_of h) { format = Two; w0 = w; workers = to.workers }) w0
    ∙ ap (λ (n : ℕ). record (header_of h) { format = Two; workers = n }) workers

-- events can't be legal and not
pub legal_or_not : {w : World} {n : ℕ} → Legal w ≡ IllegalAt n → ⊥
legal_or_not e = cc e

module _ (s : Settings) (held : Held) (text : List ℕ) (t : JudgedTrace) (judged : IsJudged s held text t) where
  -- its events are legal in the run of its own program
  pub legal_in : AreLegal (code_of t.given.accepted.typed) (lists_in t.given.input) t.trace.header t.trace.events.items
  legal_in =
      subst (λ (p : Program). AreLegal p (lists_in t.given.input) t.trace.header t.trace.events.items) judged.code
      (subst (λ (i : List (List ℤ)). AreLegal judged.trace.run.code i t.trace.header t.trace.events.items) judged.input judged.trace.legal)

  -- the lines of that run are those of the text's program
  pub in_format_two : (bytes : List ℕ)
      → bytes ≡ text_in_format_two (code_of t.given.accepted.typed) (lists_in t.given.input) t.trace.header t.trace.events.items
      → IsInFormatTwo s held text bytes
  in_format_two bytes is = record {
    header = t.trace.header;
    events = t.trace.events.items;
    trace = judged.trace;
    lines = is ∙ ap (λ (p : Program). text_in_format_two p (lists_in t.given.input) t.trace.header t.trace.events.items) (sym judged.code)
        ∙ ap (λ (i : List (List ℤ)). text_in_format_two judged.trace.run.code i t.trace.header t.trace.events.items) (sym judged.input);
  }
