use Rattle.std.proofs.Common.{List, ap, ◌∙◌, map, string_bytes, subst, sym}
use Rattle.std.proofs.lemmas.Result.{IfOk-weaker}
use Rattle.std.specs.Prelude.{IfOk}
use Rattle.events.specs.Events.{event as event_of}
use Rattle.events.specs.declared.event.Event.{Event}
use Rattle.trace_text.specs.Table.{table_text}
use Rattle.viewing.specs.Views.{TellsTrace, command_by}
use Rattle.viewing.specs.declared.tables.Look.{Look}
use Rattle.viewing.proofs.tables.shown.Goals as goal

pub returns-in-Table : goal.returns-in-Table
returns-in-Table c =
    let trace = c.args.judged.now.trace in
    subst (λ (l : Look). IfOk c.view.result
    (λ text. TellsTrace (command_by l) trace.header trace.events.items (string_bytes text))) (sym c.in-Table.is)
    (IfOk-weaker c.view.result _ _
    (λ text is. is ∙ ap (λ (es : List Event). table_text (map event_of es)) c.deref.ensures.value) c.view.ensures)

pub returns-in-TableByLine : goal.returns-in-TableByLine
returns-in-TableByLine c =
    let trace = c.args.judged.now.trace in
    subst (λ (l : Look). IfOk c.table_by_line.result
    (λ text. TellsTrace (command_by l) trace.header trace.events.items (string_bytes text))) (sym c.in-TableByLine.is)
    c.table_by_line.ensures

pub returns-in-Numbers : goal.returns-in-Numbers
returns-in-Numbers c =
    let trace = c.args.judged.now.trace in
    subst (λ (l : Look). IfOk c.numbers_shown.result
    (λ text. TellsTrace (command_by l) trace.header trace.events.items (string_bytes text))) (sym c.in-Numbers.is)
    c.numbers_shown.ensures

pub returns-in-NumbersByLine : goal.returns-in-NumbersByLine
returns-in-NumbersByLine c =
    let trace = c.args.judged.now.trace in
    subst (λ (l : Look). IfOk c.numbers_by_line.result
    (λ text. TellsTrace (command_by l) trace.header trace.events.items (string_bytes text))) (sym c.in-NumbersByLine.is)
    c.numbers_by_line.ensures
