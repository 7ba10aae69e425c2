-- The page of a trace: what its data contains.
use Rattle.std.specs.Prelude.{ℕ, ℤ, ◌≡◌, ◌+◌, List, [], ◌∷◌, ◌++◌, length, map, codes}
use Rattle.serde_json.specs.Data.{Data, string}
use Rattle.serde_json.specs.Written.{compact_text}
use Rattle.syntax.specs.declared.place.TextPlace.{TextPlace}
use Rattle.types.specs.Code.{Program}
use Rattle.types.specs.Outcome.{Budget}
use Rattle.types.specs.Translation.{budget, input as lists_in}
use Rattle.types.specs.Typed.{code_of}
use Rattle.events.specs.Events.{event as event_of}
use Rattle.events.specs.declared.event.Event.{Event}
use Rattle.event_worlds.specs.Replay.{IllegalAt, Replayed}
use Rattle.event_worlds.specs.Worlds.{replayed as replay_of}
use Rattle.event_worlds.specs.declared.error.ReplayError.{ReplayError}
use Rattle.event_worlds.specs.declared.error.ReplayError.TheVariants.{IllegalAt as rIllegalAt, NoMemory}
use Rattle.trace_numbers.specs.Summary.{IsSummary}
use Rattle.trace_numbers.specs.declared.summary.TraceSummary.{TraceSummary}
use Rattle.trace_layout.specs.Layout.{IsLayout}
use Rattle.trace_layout.specs.declared.layout.Layout.{Layout}
use Rattle.trace_text.specs.declared.header.Header.{Header}
use Rattle.trace_page.specs.Births.{births}
use Rattle.trace_page.specs.Changes.{IsReplay}
use Rattle.trace_page.specs.Costs.{cost_json}
use Rattle.trace_page.specs.Escaped.{escaped}
use Rattle.trace_page.specs.Events.{kinds_text}
use Rattle.trace_page.specs.Layouts.{AreFinishRows, finish_json, marks, spell_json, steal_json}
use Rattle.trace_page.specs.Pieces.{list_by, natural, object_of}
use Rattle.trace_page.specs.Programs.{ArePlaces, array_json, header_json, initial_json, place_json}
use Rattle.trace_page.specs.Programs.{summary_json}
use Rattle.trace_page.specs.Tasks.{AreTaskRows, tasks_json}
use Rattle.trace_page.specs.declared.after.TheConstants.{AFTER}
use Rattle.trace_page.specs.declared.before.TheConstants.{BEFORE}
use Rattle.trace_page.specs.declared.page.TracedRun.{TracedRun}

-- ---- a trace of a run

-- a program and an input, a trace of the program's run on it, and what else a page shows of it
pub record Traced : Type 0 where
  -- the program's file, as it was named, and its text
  pub name : List ℕ
  pub text : List ℕ
  -- the trace's file, as it was named
  pub trace : List ℕ
  pub code : Program
  pub input : List (List ℤ)
  pub header : Header
  pub events : List Event
  -- the label of the statement at each event, or 0
  pub labels : List ℕ

abbrev pub budget_of : Traced → Budget
budget_of run = budget run.header.budget

abbrev pub traced : TracedRun → Traced
traced run = record {
  name = run.name.now;
  text = run.text.now;
  trace = run.trace.now;
  code = code_of run.accepted.now.typed;
  input = lists_in run.input.now;
  header = run.header.now;
  events = run.events.now;
  labels = run.labels.now;
}

-- ---- the three parts of the data

-- a program with these arrays, this cost, and statements at these positions
abbrev pub described_members : Traced → (arrays cost : Data) → List TextPlace → List (List ℕ × Data)
described_members run arrays cost places =
    (codes "arrays", arrays)
    ∷ (codes "cost", cost)
    ∷ (codes "name", string run.name)
    ∷ (codes "places", list_by place_json places)
    ∷ (codes "text", string run.text) ∷ []

abbrev pub described_json : Traced → (arrays cost : Data) → List TextPlace → Data
described_json run arrays cost places = object_of (described_members run arrays cost places)

-- the program, with its cost on the run's input
abbrev pub program_json : Traced → List TextPlace → Data
program_json run places =
    described_json run (list_by array_json run.code.arrays)
    (cost_json run.code (length places + 1) run.input (budget_of run)) places

-- the layout
abbrev pub layout_members : Layout → (finish_rows task_rows : Data) → List (List ℕ × Data)
layout_members l finish_rows task_rows =
    (codes "chain", string (marks l.chain.items))
    ∷ (codes "finish_rows", finish_rows)
    ∷ (codes "finishes", list_by finish_json l.finishes.all.items)
    ∷ (codes "spells", list_by spell_json l.spells.all.items)
    ∷ (codes "steals", list_by steal_json l.moves.steals.items)
    ∷ (codes "task_rows", task_rows) ∷ []

abbrev pub layout_json : Layout → (finish_rows task_rows : Data) → Data
layout_json l finish_rows task_rows = object_of (layout_members l finish_rows task_rows)

-- the events, each once and in order, with their tasks, the labels of their statements, and what they change
abbrev pub trace_members : Traced → TraceSummary → (tasks changes : Data) → List (List ℕ × Data)
trace_members run summary tasks changes =
    (codes "changes", changes)
    ∷ (codes "header", header_json run.header)
    ∷ (codes "initial", list_by initial_json run.input)
    ∷ (codes "kinds", string (kinds_text (map event_of run.events)))
    ∷ (codes "labels", list_by natural run.labels)
    ∷ (codes "name", string run.trace)
    ∷ (codes "summary", summary_json summary)
    ∷ (codes "tasks", tasks) ∷ []

abbrev pub trace_json : Traced → TraceSummary → (tasks changes : Data) → Data
trace_json run summary tasks changes = object_of (trace_members run summary tasks changes)

-- the task of each event
abbrev pub tasks_of : Traced → Data
tasks_of run = tasks_json (births run.events) run.events

-- the three parts
abbrev pub parts : (layout program trace : Data) → List (List ℕ × Data)
parts layout program trace =
    (codes "format", natural 1)
    ∷ (codes "layout", layout)
    ∷ (codes "program", program)
    ∷ (codes "trace", trace) ∷ []

abbrev pub parts_json : (layout program trace : Data) → Data
parts_json layout program trace = object_of (parts layout program trace)

-- what the run's events change, in their replay
abbrev pub IsReplayed : Traced → (changes : Data) → Type 0
IsReplayed run = IsReplay run.code run.header.w0 (budget_of run) run.input run.events

-- ---- the data of a run's page
pub record IsData (run : Traced) (d : Data) : Type 0 where
  pub places : List TextPlace
  pub begun : ArePlaces run.text places
  -- spells, steals and finishes as `trace_layout` defines them
  pub layout : Layout
  pub laid_out : IsLayout run.events layout
  pub finish_rows : Data
  pub of_finishes : AreFinishRows layout.finishes.all.items finish_rows
  pub task_rows : Data
  pub of_tasks : AreTaskRows (births run.events) run.events task_rows
  pub summary : TraceSummary
  pub counted : IsSummary run.events summary
  -- weights and books as in the replay of the events
  pub changes : Data
  pub replayed : IsReplayed run changes
  pub are : d ≡ parts_json (layout_json layout finish_rows task_rows) (program_json run places)
      (trace_json run summary (tasks_of run) changes)

-- ---- the page

-- the text of the data, without any `<`, between two constants
pub record IsPage (run : Traced) (text : List ℕ) : Type 0 where
  pub contents : Data
  pub contains : IsData run contents
  pub are : text ≡ BEFORE.now ++ (escaped (compact_text contents) ++ AFTER.now)

-- ---- a trace that isn't one of the run

-- what the run's events lead to
abbrev pub comes_of : Traced → Replayed
comes_of run =
    replay_of run.code run.header.w0 run.input (budget_of run) (map event_of run.events)

-- this event is the first that isn't legal; or memory ran out
abbrev pub IsNoTrace : Traced → ReplayError → Type 0
IsNoTrace run (rIllegalAt n) = comes_of run ≡ IllegalAt n
IsNoTrace run NoMemory = Unit {0}
