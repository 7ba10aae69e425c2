use Rattle.std.proofs.Common.{◌∙◌, List, ap, map, refl}
use Rattle.std.proofs.lemmas.Result.{IfOk-at_ok}
use Rattle.command_line.specs.Requests.{settings}
use Rattle.command_line.specs.declared.request.Command.TheVariants.{Upgrade}
use Rattle.events.specs.Events.{event}
use Rattle.events.specs.declared.event.Event.{Event}
use Rattle.trace_text.specs.Table.{table_text}
use Rattle.commands.proofs.Answering.{answered}
use Rattle.viewing.specs.Views.{AnswersTrace, ExplainsTrace, IsInFormatTwo, picture_name}
use Rattle.viewing.proofs.Viewing.{in_format_two, legal_in, views_no_trace, views_unwritten}
use Rattle.viewing.proofs.Written.{unwritten, wrote, wrote_anyway}
use Rattle.viewing.proofs.upgrading.upgrade.Goals as goal

pub returns-in_err-judged-clause-done : goal.returns-in_err-judged-clause-done
returns-in_err-judged-clause-done g c =
    let s = settings c.args.question.settings in let held = g.F.FileSource.held c.args.files.now in
    views_no_trace s held c.args.question.text.now Upgrade _ _ _ c.from_residual.ensures.1
    c.in_err-judged.ensures.why

pub returns-in_err-write_file-clause-done : goal.returns-in_err-write_file-clause-done
returns-in_err-write_file-clause-done g c =
    let s = settings c.args.question.settings in let held = g.F.FileSource.held c.args.files.now in
    views_unwritten s held c.args.question.text.now Upgrade tt _ _
    c.in_ok-judged.ensures.judged.trace _ c.picture_name.ensures _ _ _ c.from_residual-in_err-write_file.ensures.1
    c.in_err-write_file.ensures.why

pub returns-in_err-write_file-clause-trace : goal.returns-in_err-write_file-clause-trace
returns-in_err-write_file-clause-trace g c =
    let s = settings c.args.question.settings in let held = g.F.FileSource.held c.args.files.now in
    unwritten _ (picture_name s) c.picture_name.ensures (IsInFormatTwo s held c.args.question.text.now) held _ _
    c.in_ok-judged.ensures.keeps _ _ c.from_residual-in_err-write_file.ensures.1 c.in_err-write_file.ensures.why
    c.in_err-write_file.ensures.others

pub returns-clause-done : goal.returns-clause-done
returns-clause-done g c =
    let s = settings c.args.question.settings in let held = g.F.FileSource.held c.args.files.now in
    let text = c.args.question.text.now in let trace = c.in_ok-judged.judged.trace in
    answered (AnswersTrace Upgrade s held text) (ExplainsTrace Upgrade s held text) _ _ c.answer.result c.as_str.result.now 0 tt
    (record {
      header = trace.header;
      events = trace.events.items;
      trace = c.in_ok-judged.ensures.judged.trace;
      tells = c.as_str.ensures.value ∙ IfOk-at_ok _ c.in_ok-table.ensures.value c.view.ensures
          ∙ ap (λ (es : List Event). table_text (map event es)) c.deref.ensures.value;
      status_is = refl;
    })
    c.answer.ensures.text c.answer.ensures.status c.answer.ensures.failure

pub returns-clause-trace : goal.returns-clause-trace
returns-clause-trace g c =
    let s = settings c.args.question.settings in let held = g.F.FileSource.held c.args.files.now in
    let text = c.args.question.text.now in let judged = c.in_ok-judged.judged in
    wrote_anyway (picture_name s) (IsInFormatTwo s held text) held _ c.answer.result
    (wrote _ (picture_name s) c.picture_name.ensures (IsInFormatTwo s held text) held _ _ c.in_ok-judged.ensures.keeps
    c.as_bytes.result.now
    (in_format_two s held text judged c.in_ok-judged.ensures.judged c.as_bytes.result.now
    (c.as_bytes.ensures.value ∙ c.in_ok-lines.ensures.lines))
    c.in_ok-write_file.ensures.written c.in_ok-write_file.ensures.others)
    c.answer.ensures.failure

pub lines_of-requires-clause-legal : goal.lines_of-requires-clause-legal
lines_of-requires-clause-legal g c =
    let s = settings c.args.question.settings in let held = g.F.FileSource.held c.args.files.now in
    legal_in s held c.args.question.text.now c.in_ok-judged.judged c.in_ok-judged.ensures.judged
