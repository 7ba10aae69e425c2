use Rattle.std.proofs.Common.{ℕ, List, refl, subst, sym}
use Rattle.std.proofs.lemmas.Result.{IfOk-at_ok}
use Rattle.command_line.specs.Requests.{settings}
use Rattle.commands.proofs.Answering.{answered}
use Rattle.viewing.specs.Views.{AnswersTrace, ExplainsTrace, IsDrawnAs, ShowsTrace, command_of, picture_name}
use Rattle.viewing.proofs.Viewing.{drawn_as, draws_form, form_tells, views_no_trace, views_unwritten}
use Rattle.viewing.proofs.Written.{unwritten, wrote, wrote_anyway}
use Rattle.viewing.proofs.drawing.draw.Goals as goal

pub returns-in_err-judged-clause-done : goal.returns-in_err-judged-clause-done
returns-in_err-judged-clause-done g c =
    let s = settings c.args.question.settings in let held = g.F.FileSource.held c.args.files.now in
    views_no_trace s held c.args.question.text.now (command_of c.args.form) _ _ _ c.from_residual.ensures.1
    c.in_err-judged.ensures.why

pub returns-in_err-write_file-clause-done : goal.returns-in_err-write_file-clause-done
returns-in_err-write_file-clause-done g c =
    let s = settings c.args.question.settings in let held = g.F.FileSource.held c.args.files.now in
    views_unwritten s held c.args.question.text.now (command_of c.args.form) (draws_form c.args.form) _ _
    c.in_ok-judged.ensures.judged.trace _ c.picture_name.ensures _ _ _ c.from_residual-in_err-write_file.ensures.1
    c.in_err-write_file.ensures.why

pub returns-in_err-write_file-clause-picture : goal.returns-in_err-write_file-clause-picture
returns-in_err-write_file-clause-picture g c =
    let s = settings c.args.question.settings in let held = g.F.FileSource.held c.args.files.now in
    unwritten _ (picture_name s) c.picture_name.ensures (IsDrawnAs c.args.form s held c.args.question.text.now) held _ _
    c.in_ok-judged.ensures.keeps _ _ c.from_residual-in_err-write_file.ensures.1 c.in_err-write_file.ensures.why
    c.in_err-write_file.ensures.others

pub returns-clause-done : goal.returns-clause-done
returns-clause-done g c =
    let s = settings c.args.question.settings in let held = g.F.FileSource.held c.args.files.now in
    let text = c.args.question.text.now in let by = command_of c.args.form in let trace = c.in_ok-judged.judged.trace in
    answered (AnswersTrace by s held text) (ExplainsTrace by s held text) _ _ c.answer.result _ 0 tt
    (record {
      header = trace.header;
      events = trace.events.items;
      trace = c.in_ok-judged.ensures.judged.trace;
      tells = form_tells c.args.form trace.header trace.events.items;
      status_is = refl;
    })
    c.answer.ensures.text c.answer.ensures.status c.answer.ensures.failure

pub returns-clause-picture : goal.returns-clause-picture
returns-clause-picture g c =
    let s = settings c.args.question.settings in let held = g.F.FileSource.held c.args.files.now in
    let text = c.args.question.text.now in let t = c.in_ok-judged.judged in let form = c.args.form in
    let shows = subst (λ (bytes : List ℕ). ShowsTrace form s text t bytes) (sym c.as_bytes.ensures.value)
    (IfOk-at_ok _ c.in_ok-picture.ensures.value c.drawn.ensures) in
    wrote_anyway (picture_name s) (IsDrawnAs form s held text) held _ c.answer.result
    (wrote _ (picture_name s) c.picture_name.ensures (IsDrawnAs form s held text) held _ _ c.in_ok-judged.ensures.keeps
    c.as_bytes.result.now (drawn_as s held text t c.in_ok-judged.ensures.judged c.as_bytes.result.now form shows)
    c.in_ok-write_file.ensures.written c.in_ok-write_file.ensures.others)
    c.answer.ensures.failure
