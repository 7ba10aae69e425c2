use Rattle.std.proofs.Common.{◌∙◌, List, ap, map, subst}
use Rattle.std.proofs.lemmas.Result.{IfOk-weaker}
use Rattle.serde_json.specs.Data.{Data}
use Rattle.serde_json.specs.View.{view}
use Rattle.syntax.specs.declared.place.TextPlace.{TextPlace}
use Rattle.trace_layout.specs.declared.finishes.Finish.{Finish}
use Rattle.trace_page.specs.Births.{Born, birth}
use Rattle.trace_page.specs.Layouts.{AreFinishRows}
use Rattle.trace_page.specs.Pages.{layout_json, program_json, tasks_of, trace_json, traced}
use Rattle.trace_page.specs.Tasks.{AreTaskRows, tasks_json}
use Rattle.trace_page.proofs.Parts.{same_parts}
use Rattle.trace_page.proofs.page.data_value.Goals as goal

pub returns : goal.returns
returns c =
    let run = traced c.args.run in
    let drawn = c.in_ok-drawn.ensures in
    let program = c.in_ok-program.ensures ∙ ap (λ (ps : List TextPlace). program_json run ps) c.deref-3.ensures.value in
    let tasks = c.in_ok-tasks.ensures
    ∙ ap (λ (bs : List Born). tasks_json bs run.events) (ap (map birth) c.deref-4.ensures.value ∙ c.in_ok-births.ensures) in
    let trace = c.in_ok-trace.ensures ∙ ap (λ (d : Data). trace_json run c.in_ok-summary.summary d (view c.args.changes)) tasks in
    IfOk-weaker c.whole.result _ _ (λ v is. record {
      places = c.in_ok-places.places.items;
      begun = c.in_ok-places.ensures;
      layout = c.in_ok-layout.layout;
      laid_out = c.in_ok-layout.ensures;
      finish_rows = view c.in_ok-finish_rows.finish_rows;
      of_finishes = subst (λ (l : List Finish). AreFinishRows l (view c.in_ok-finish_rows.finish_rows)) c.deref.ensures.value
          c.in_ok-finish_rows.ensures;
      task_rows = view c.in_ok-task_rows.task_rows;
      of_tasks = subst (λ (bs : List Born). AreTaskRows bs run.events (view c.in_ok-task_rows.task_rows))
          (ap (map birth) c.deref-2.ensures.value ∙ c.in_ok-births.ensures) c.in_ok-task_rows.ensures;
      summary = c.in_ok-summary.summary;
      counted = c.in_ok-summary.ensures;
      changes = view c.args.changes;
      replayed = c.requires.replayed;
      are = same_parts (view v) (view c.in_ok-drawn.drawn)
          (layout_json c.in_ok-layout.layout (view c.in_ok-finish_rows.finish_rows) (view c.in_ok-task_rows.task_rows))
          (view c.in_ok-program.program) (program_json run c.in_ok-places.places.items) (view c.in_ok-trace.trace)
          (trace_json run c.in_ok-summary.summary (tasks_of run) (view c.args.changes)) is drawn program trace;
    }) c.whole.ensures
