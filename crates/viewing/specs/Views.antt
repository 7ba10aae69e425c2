-- The answers for the trace of a run, and the reasons why there is none.
use Rattle.std.specs.Prelude.{ℕ, ℤ, ◌≡◌, ◌⊎◌, ◌+◌, ◌++◌, List, [], ◌∷◌, Option, Result, codes, length, map}
use Rattle.std.specs.Prelude.{false, option_map, slice_get, slice_index, true, unwrap_or}
use Rattle.std.specs.Str.Lines.{lines}
use Rattle.std.specs.String.{string_bytes}
use Rattle.types.specs.Code.{Program}
use Rattle.types.specs.Outcome.{Budget}
use Rattle.types.specs.Translation.{budget, input as lists_in}
use Rattle.types.specs.Typed.{code_of}
use Rattle.events.specs.Events.{event as event_of}
use Rattle.events.specs.declared.event.Event.{Event}
use Rattle.event_worlds.specs.Numbering.{numbered}
use Rattle.event_worlds.specs.World.{World, has_passed, root_scope}
use Rattle.event_worlds.specs.Worlds.{IsFirstIllegal, IsSpent, LeadsTo}
use Rattle.trace_numbers.specs.Summary.{IsSummary}
use Rattle.trace_numbers.specs.Text.{summary_text}
use Rattle.trace_numbers.specs.declared.summary.TraceSummary.{TraceSummary as SummaryOf}
use Rattle.trace_text.specs.Headers.{TraceHeader, header_of}
use Rattle.trace_text.specs.Lines.{trace_text}
use Rattle.trace_text.specs.Reading.{IsRefusal, IsTrace}
use Rattle.trace_text.specs.Table.{table_text}
use Rattle.trace_text.specs.declared.error.TraceError.{TraceError}
use Rattle.trace_text.specs.declared.format.Format.TheVariants.{One, Two}
use Rattle.trace_text.specs.declared.header.Header.{Header}
use Rattle.command_line.specs.Requests.{Settings}
use Rattle.command_line.specs.declared.request.Command.{Command}
use Rattle.command_line.specs.declared.request.Command.TheVariants.{Run, Serial, Check, Listing, Pairs}
use Rattle.command_line.specs.declared.request.Command.TheVariants.{Meetings, Explore, Labels, Places, Format}
use Rattle.command_line.specs.declared.request.Command.TheVariants.{CheckFormat, View, Summary, Draw, Chrome}
use Rattle.command_line.specs.declared.request.Command.TheVariants.{Page, Schedules, Upgrade}
use Rattle.command_line.specs.declared.request.Command.TheVariants.{Cost, CostByLabel, CostByProcedure}
use Rattle.command_line.specs.declared.request.Command.TheVariants.{PairsByLine, ViewByLine, SummaryByLine}
use Rattle.files.specs.Held.{Held, HasText, TellsNoText}
use Rattle.failures.specs.declared.failure.Failure.{Failure}
use Rattle.failures.specs.declared.failure.Failure.TheVariants.{CannotRead, NotUtf8, Input, Trace, Illegal}
use Rattle.failures.specs.declared.failure.Failure.TheVariants.{CannotWrite, CannotWriteOutput, NoMemory}
use Rattle.commands.specs.Answers.{Done, IsExplored, LacksInput, TellsNotAccepted, TellsNotBegun}
use Rattle.trace_page.specs.Pages.{IsPage, Traced}
use Rattle.viewing.specs.declared.drawing.Form.{Form}
use Rattle.viewing.specs.declared.drawing.Form.TheVariants.{Html, Picture, Spans}
use Rattle.viewing.specs.declared.remarks.Remarks.{Remarks}
use Rattle.viewing.specs.declared.tables.Look.{Look}
use Rattle.viewing.specs.declared.tables.Look.TheVariants.{Table, TableByLine, Numbers, NumbersByLine}
use Rattle.viewing.specs.declared.traces.JudgedTrace.{JudgedTrace}

-- ---- names

-- the file of the trace: arguments that request to show one always name it
abbrev pub trace_name : Settings → List ℕ
trace_name s = unwrap_or s.trace (codes "-")

-- the file of the picture: arguments that request one always name it
abbrev pub picture_name : Settings → List ℕ
picture_name s = unwrap_or s.picture (codes "-")

-- ---- traces

-- the file with this name has the trace of a header and of events
pub record HoldsTrace (held : Held) (name : List ℕ) (h : Header) (es : List Event) : Type 0 where
  pub lines : List ℕ
  pub has_text : HasText held name lines
  pub is_trace : IsTrace (header_of h) (map event_of es) lines

-- events are legal from the start of a program's run on an input, under the budget and with the weight of a
-- header
pub record AreLegal (p : Program) (input : List (List ℤ)) (h : Header) (es : List Event) : Type 0 where
  pub world : World
  pub legal : LeadsTo p h.w0 input (budget h.budget) (map event_of es) world

-- the text's program has no race, and there is an input and a trace of the program's run on it
pub record HasTrace (s : Settings) (held : Held) (text : List ℕ) (h : Header) (es : List Event) : Type 0 where
  pub run : IsExplored s held text
  pub holds : HoldsTrace held (trace_name s) h es
  pub legal : AreLegal run.code run.input h es

-- this is the trace of the text's program, which was read: its program and its input are those of the run
pub record IsJudged (s : Settings) (held : Held) (text : List ℕ) (t : JudgedTrace) : Type 0 where
  pub trace : HasTrace s held text t.trace.header t.trace.events.items
  pub code : trace.run.code ≡ code_of t.given.accepted.typed
  pub input : trace.run.input ≡ lists_in t.given.input

-- ---- answers

-- the command that shows this part of a trace
abbrev pub command_by : Look → Command
command_by Table = View
command_by TableByLine = ViewByLine
command_by Numbers = Summary
command_by NumbersByLine = SummaryByLine

-- this is the text of the numbers of events, in a run on so many workers
pub record IsSummaryText (workers : ℕ) (es : List Event) (told : List ℕ) : Type 0 where
  pub numbers : SummaryOf
  pub are : IsSummary es numbers
  pub told_is : told ≡ summary_text workers numbers

-- lines, each with a remark after it, from the n-th on
abbrev pub remarked : (remark : ℕ → List ℕ) → (n : ℕ) → List (List ℕ) → List ℕ
remarked remark n [] = []
remarked remark n (line ∷ more) = (line ++ (remark n ++ codes "\n")) ++ remarked remark (n + 1) more

-- the remark after the line of the n-th event
abbrev pub remark_at : Remarks → (n : ℕ) → List ℕ
remark_at r n = unwrap_or (option_map string_bytes (slice_get r.texts.items (slice_index r.labels.items n))) []

-- this is the table of events with a remark after each line; the remarks aren't specified
pub record IsTableByLine (es : List Event) (told : List ℕ) : Type 0 where
  pub remark : ℕ → List ℕ
  pub told_is : told ≡ remarked remark 0 (lines (table_text (map event_of es)))

-- after the text of the numbers of events come other lines, which aren't specified
pub record IsSummaryByLine (workers : ℕ) (es : List Event) (told : List ℕ) : Type 0 where
  pub before : List ℕ
  pub is_text : IsSummaryText workers es before
  pub behind : List ℕ
  pub told_is : told ≡ before ++ behind

-- the answer for a trace: by `view` and `view --upgrade` the table of its events, by `view --summary` its
-- numbers, by
-- `--by-line` also with statements; `view --svg`, `view --chrome` and `view --html` write nothing to the standard
-- output
abbrev pub TellsTrace : Command → Header → List Event → (told : List ℕ) → Type 0
TellsTrace View h es told = told ≡ table_text (map event_of es)
TellsTrace ViewByLine h es told = IsTableByLine es told
TellsTrace Summary h es told = IsSummaryText h.workers es told
TellsTrace SummaryByLine h es told = IsSummaryByLine h.workers es told
TellsTrace Draw h es told = told ≡ []
TellsTrace Chrome h es told = told ≡ []
TellsTrace Page h es told = told ≡ []
TellsTrace Schedules h es told = ⊥
TellsTrace Upgrade h es told = told ≡ table_text (map event_of es)
TellsTrace Run h es told = ⊥
TellsTrace Serial h es told = ⊥
TellsTrace Check h es told = ⊥
TellsTrace Listing h es told = ⊥
TellsTrace Pairs h es told = ⊥
TellsTrace Meetings h es told = ⊥
TellsTrace PairsByLine h es told = ⊥
TellsTrace Explore h es told = ⊥
TellsTrace Labels h es told = ⊥
TellsTrace Places h es told = ⊥
TellsTrace Format h es told = ⊥
TellsTrace CheckFormat h es told = ⊥
TellsTrace Cost h es told = ⊥
TellsTrace CostByLabel h es told = ⊥
TellsTrace CostByProcedure h es told = ⊥

-- the text written, with its status, answers the command for a trace
pub record AnswersTrace (c : Command) (s : Settings) (held : Held) (text told : List ℕ) (status : ℕ)
    : Type 0 where
  pub header : Header
  pub events : List Event
  pub trace : HasTrace s held text header events
  pub tells : TellsTrace c header events told
  pub status_is : status ≡ 0

-- ---- failures

-- the file with this name has a text that is not a trace, for the reason in the error
pub record HasNoTrace (held : Held) (name : List ℕ) (e : TraceError) : Type 0 where
  pub lines : List ℕ
  pub has_text : HasText held name lines
  pub why : IsRefusal lines e

-- why the file with this name has no trace; only out of memory needs no reason
abbrev pub TellsNoLines : Held → (name : List ℕ) → Failure → Type 0
TellsNoLines held name (CannotRead told) = TellsNoText held name (CannotRead told)
TellsNoLines held name (NotUtf8 told) = TellsNoText held name (NotUtf8 told)
TellsNoLines held name (Trace e) = HasNoTrace held name e
TellsNoLines held name NoMemory = Unit {0}
TellsNoLines held name _ = ⊥

-- why events aren't legal: this number is that of the first illegal one; only out of memory needs no reason
abbrev pub TellsIllegal : Program → (input : List (List ℤ)) → Header → List Event → Failure → Type 0
TellsIllegal p input h es (Illegal n) = IsFirstIllegal p h.w0 input (budget h.budget) (map event_of es) n
TellsIllegal p input h es NoMemory = Unit {0}
TellsIllegal p input h es _ = ⊥

-- the text's program has no race, and an input, but there is no trace, for the reason in the failure
pub record LacksTrace (s : Settings) (held : Held) (text : List ℕ) (f : Failure) : Type 0 where
  pub run : IsExplored s held text
  pub why : TellsNoLines held (trace_name s) f

-- there is a trace too, but it isn't one of the program's run on the input, for the reason in the failure
pub record HasIllegalTrace (s : Settings) (held : Held) (text : List ℕ) (f : Failure) : Type 0 where
  pub run : IsExplored s held text
  pub header : Header
  pub events : List Event
  pub holds : HoldsTrace held (trace_name s) header events
  pub why : TellsIllegal run.code run.input header events f

-- why there is no trace of the text's program; only out of memory needs no reason
abbrev pub TellsNoTrace : Settings → Held → (text : List ℕ) → Failure → Type 0
TellsNoTrace s held text (CannotRead name) =
    LacksInput View s held text (CannotRead name) ⊎ LacksTrace s held text (CannotRead name)
TellsNoTrace s held text (NotUtf8 name) =
    LacksInput View s held text (NotUtf8 name) ⊎ LacksTrace s held text (NotUtf8 name)
TellsNoTrace s held text (Input e) = LacksInput View s held text (Input e)
TellsNoTrace s held text (Trace e) = LacksTrace s held text (Trace e)
TellsNoTrace s held text (Illegal n) = HasIllegalTrace s held text (Illegal n)
TellsNoTrace s held text NoMemory = Unit {0}
TellsNoTrace s held text f = TellsNotAccepted text f

-- the command draws a trace in a file, or writes it there in format 2
abbrev pub Draws : Command → Type 0
Draws Draw = Unit {0}
Draws Chrome = Unit {0}
Draws Page = Unit {0}
Draws Schedules = ⊥
Draws Upgrade = Unit {0}
Draws View = ⊥
Draws ViewByLine = ⊥
Draws Summary = ⊥
Draws SummaryByLine = ⊥
Draws Run = ⊥
Draws Serial = ⊥
Draws Check = ⊥
Draws Listing = ⊥
Draws Pairs = ⊥
Draws Meetings = ⊥
Draws PairsByLine = ⊥
Draws Explore = ⊥
Draws Labels = ⊥
Draws Places = ⊥
Draws Format = ⊥
Draws CheckFormat = ⊥
Draws Cost = ⊥
Draws CostByLabel = ⊥
Draws CostByProcedure = ⊥

-- the command that draws it in this form
abbrev pub command_of : Form → Command
command_of Picture = Draw
command_of Spans = Chrome
command_of (Html program) = Page

-- a trace is drawn, and the file of the picture has this name
pub record IsDrawnTo (s : Settings) (held : Held) (text told : List ℕ) : Type 0 where
  pub header : Header
  pub events : List Event
  pub trace : HasTrace s held text header events
  pub name : told ≡ picture_name s

-- why there is no answer for a trace
abbrev pub ExplainsTrace : Command → Settings → Held → (text : List ℕ) → Failure → Type 0
ExplainsTrace c s held text (CannotWrite name) = Draws c × IsDrawnTo s held text (string_bytes name)
ExplainsTrace c s held text CannotWriteOutput = Unit {0}
ExplainsTrace c s held text f = TellsNoTrace s held text f

-- a command for a trace was carried out
abbrev pub Views : Command → Settings → Held → (text : List ℕ) → (old new : Option (List ℕ))
    → Result ℕ Failure → Type 0
Views c s held text = Done (AnswersTrace c s held text) (ExplainsTrace c s held text)

-- ---- pictures

-- a trace of the text's program was drawn; how it is drawn isn't specified
pub record IsDrawn (s : Settings) (held : Held) (text bytes : List ℕ) : Type 0 where
  pub header : Header
  pub events : List Event
  pub trace : HasTrace s held text header events

-- what a page shows of a trace that was read, with these names, this text, and these labels at the events
abbrev pub traced_of : JudgedTrace → (name text trace labels : List ℕ) → Traced
traced_of t name text trace labels = record {
  name = name;
  text = text;
  trace = trace;
  code = code_of t.given.accepted.typed;
  input = lists_in t.given.input;
  header = t.trace.header;
  events = t.trace.events.items;
  labels = labels;
}

-- a page of a trace that was read, by the name of the program's file
pub record ShowsPage (name : List ℕ) (s : Settings) (text : List ℕ) (t : JudgedTrace) (bytes : List ℕ)
    : Type 0 where
  pub labels : List ℕ
  pub page : IsPage (traced_of t name text (trace_name s) labels) bytes

-- a trace that was read, drawn in this form; how a picture is drawn isn't specified
abbrev pub ShowsTrace : Form → Settings → (text : List ℕ) → JudgedTrace → (bytes : List ℕ) → Type 0
ShowsTrace Picture s text t bytes = Unit {0}
ShowsTrace Spans s text t bytes = Unit {0}
ShowsTrace (Html program) s text t bytes = ShowsPage program.now s text t bytes

-- ---- pages

-- the page of a trace of the text's program, by the name of the program's file; the labels aren't specified
pub record IsPageOf (name : List ℕ) (s : Settings) (held : Held) (text bytes : List ℕ) : Type 0 where
  pub header : Header
  pub events : List Event
  pub trace : HasTrace s held text header events
  pub labels : List ℕ
  pub page : IsPage (record {
    name = name;
    text = text;
    trace = trace_name s;
    code = trace.run.code;
    input = trace.run.input;
    header = header;
    events = events;
    labels = labels;
  })
      bytes

-- the contents of the file in which a trace is drawn in this form
abbrev pub IsDrawnAs : Form → Settings → Held → (text bytes : List ℕ) → Type 0
IsDrawnAs Picture s held text bytes = IsDrawn s held text bytes
IsDrawnAs Spans s held text bytes = IsDrawn s held text bytes
IsDrawnAs (Html program) s held text bytes = IsPageOf program.now s held text bytes

-- ---- format 2

-- the lines of events in format 2: each resume has its number of faults, and nothing else changed
abbrev pub text_in_format_two : Program → (input : List (List ℤ)) → Header → List Event → List ℕ
text_in_format_two p input h es =
    trace_text (record (header_of h) { format = Two }) (numbered p h.w0 input (budget h.budget) (map event_of es))

-- this is a trace of the text's program in format 2
pub record IsInFormatTwo (s : Settings) (held : Held) (text bytes : List ℕ) : Type 0 where
  pub header : Header
  pub events : List Event
  pub trace : HasTrace s held text header events
  pub lines : bytes ≡ text_in_format_two trace.run.code trace.run.input header events

-- ---- schedules

-- the settings of the run that a page of schedules shows: one worker, and asyncs nested as deeply as a budget can
-- allow
abbrev pub schedule_header : TraceHeader
schedule_header = record { format = One; steps = 1000000; nest = 1000; w0 = 1048576; workers = 1 }

-- the settings of a page that shows no run
abbrev pub runless_header : TraceHeader
runless_header = record { format = One; steps = 1; nest = 0; w0 = 1048576; workers = 1 }

abbrev pub budget_in : TraceHeader → Budget
budget_in h = record { steps = h.steps; nest = h.nest }

module _ (p : Program) (input : List (List ℤ)) where
  -- events of a run under some settings, from its start to the world in which main has passed
  pub record AreWhole (h : TraceHeader) (es : List Event) : Type 0 where
    pub world : World
    pub legal : LeadsTo p h.w0 input (budget_in h) (map event_of es) world
    pub passed : has_passed root_scope world ≡ true

  -- a run has not come to its end after 8,003 events, more than those of 2,000 steps; or a task needs weight from
  -- a scope that has issued 2^31 times
  pub record IsTooLong (h : TraceHeader) : Type 0 where
    pub events : List Event
    pub world : World
    pub legal : LeadsTo p h.w0 input (budget_in h) (map event_of events) world
    pub goes_on : has_passed root_scope world ≡ false
    pub so_far : IsSpent p h.w0 (budget_in h) world ⊎ (length events ≡ 8003)

  -- what a page of schedules shows: a whole run, whichever; or none, if the run is too long
  pub data AreShown (h : Header) (es : List Event) : Type 0 where
    a_run : header_of h ≡ schedule_header → AreWhole schedule_header es → AreShown h es
    no_run : header_of h ≡ runless_header → es ≡ [] → IsTooLong schedule_header → AreShown h es

-- a page of events that are of no trace's file
pub record ShowsSchedules (name text : List ℕ) (t : JudgedTrace) (bytes : List ℕ) : Type 0 where
  pub labels : List ℕ
  pub page : IsPage (traced_of t name text [] labels) bytes

-- the page of a run of the text's program on the input, by the name of the program's file. A task takes the same
-- steps in each run, so one whole run has the steps of all schedules
pub record IsSchedulesPage (name : List ℕ) (s : Settings) (held : Held) (text bytes : List ℕ) : Type 0 where
  pub run : IsExplored s held text
  pub header : Header
  pub events : List Event
  pub shown : AreShown run.code run.input header events
  pub labels : List ℕ
  pub page : IsPage (record {
    name = name;
    text = text;
    trace = [];
    code = run.code;
    input = run.input;
    header = header;
    events = events;
    labels = labels;
  })
      bytes

-- `explore --html` writes nothing to the standard output
pub record AnswersSchedules (s : Settings) (held : Held) (text told : List ℕ) (status : ℕ) : Type 0 where
  pub run : IsExplored s held text
  pub told_is : told ≡ []
  pub status_is : status ≡ 0

-- why there is no page of schedules; only out of memory needs no reason
abbrev pub ExplainsSchedules : Settings → Held → (text : List ℕ) → Failure → Type 0
ExplainsSchedules s held text (CannotWrite name) = IsExplored s held text × (string_bytes name ≡ picture_name s)
ExplainsSchedules s held text CannotWriteOutput = Unit {0}
ExplainsSchedules s held text NoMemory = Unit {0}
ExplainsSchedules s held text f = TellsNotBegun s held text f
