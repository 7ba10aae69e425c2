use Rattle.std.proofs.Common.{ℕ, List, ap, refl, subst, sym}
use Rattle.std.proofs.lemmas.Result.{IfOk-at_ok}
use Rattle.types.specs.Translation.{input as lists_in}
use Rattle.types.specs.Typed.{code_of}
use Rattle.command_line.specs.Requests.{settings}
use Rattle.commands.specs.declared.question.Begun.{Begun}
use Rattle.commands.proofs.Answering.{answered, begun_so}
use Rattle.viewing.specs.Views.{AnswersSchedules, AreShown, ExplainsSchedules, IsSchedulesPage, ShowsSchedules, picture_name}
use Rattle.viewing.proofs.Scheduled.{schedules_not_begun, schedules_page, schedules_unwritten, schedules_without_memory}
use Rattle.viewing.proofs.Written.{unwritten, wrote, wrote_anyway}
use Rattle.viewing.proofs.schedules.write_schedules.Goals as goal

pub returns-in_err-given-clause-done : goal.returns-in_err-given-clause-done
returns-in_err-given-clause-done g c =
    schedules_not_begun (settings c.args.question.settings) (g.F.FileSource.held c.args.files.now) c.args.question.text.now _ _ _
    c.from_residual.ensures.1 c.in_err-given.ensures.why

pub returns-in_err-shown-clause-done : goal.returns-in_err-shown-clause-done
returns-in_err-shown-clause-done g c =
    schedules_without_memory (settings c.args.question.settings) (g.F.FileSource.held c.args.files.now)
    c.args.question.text.now _ _ _ c.from_residual-in_err-shown.ensures.1 c.in_err-shown.ensures.why

pub returns-in_err-page-clause-done : goal.returns-in_err-page-clause-done
returns-in_err-page-clause-done g c =
    schedules_without_memory (settings c.args.question.settings) (g.F.FileSource.held c.args.files.now)
    c.args.question.text.now _ _ _ c.from_residual-in_err-page.ensures.1 c.in_err-page.ensures.why

pub returns-in_err-write_file-clause-done : goal.returns-in_err-write_file-clause-done
returns-in_err-write_file-clause-done g c =
    let s = settings c.args.question.settings in let held = g.F.FileSource.held c.args.files.now in
    let text = c.args.question.text.now in
    schedules_unwritten s held text (begun_so s held text c.in_ok-given.given c.in_ok-given.ensures.given) _ c.picture_name.ensures _ _ _
    c.from_residual-in_err-write_file.ensures.1 c.in_err-write_file.ensures.why

pub returns-in_err-write_file-clause-page : goal.returns-in_err-write_file-clause-page
returns-in_err-write_file-clause-page g c =
    let s = settings c.args.question.settings in let held = g.F.FileSource.held c.args.files.now in
    unwritten _ (picture_name s) c.picture_name.ensures (IsSchedulesPage c.args.program.now s held c.args.question.text.now) held _ _
    c.in_ok-given.ensures.keeps _ _ c.from_residual-in_err-write_file.ensures.1 c.in_err-write_file.ensures.why
    c.in_err-write_file.ensures.others

pub returns-clause-done : goal.returns-clause-done
returns-clause-done g c =
    let s = settings c.args.question.settings in let held = g.F.FileSource.held c.args.files.now in
    let text = c.args.question.text.now in
    answered (AnswersSchedules s held text) (ExplainsSchedules s held text) _ _ c.answer.result _ 0 tt
    (record {
      run = begun_so s held text c.in_ok-given.given c.in_ok-given.ensures.given;
      told_is = refl;
      status_is = refl;
    })
    c.answer.ensures.text c.answer.ensures.status c.answer.ensures.failure

pub returns-clause-page : goal.returns-clause-page
returns-clause-page g c =
    let s = settings c.args.question.settings in let held = g.F.FileSource.held c.args.files.now in
    let text = c.args.question.text.now in let name = c.args.program.now in
    let t = c.in_ok-shown.shown in
    let given = IfOk-at_ok _ c.in_ok-shown.ensures.value c.shown_of.ensures.given in
    let are_shown = subst
    (λ (b : Begun). AreShown (code_of b.accepted.typed) (lists_in b.input) t.trace.header t.trace.events.items) (sym given)
    (IfOk-at_ok _ c.in_ok-shown.ensures.value c.shown_of.ensures.shown) in
    let shows = subst (λ (bytes : List ℕ). ShowsSchedules name text t bytes) (sym c.as_bytes.ensures.value)
    (IfOk-at_ok _ c.in_ok-page.ensures.value c.page_of_shown.ensures) in
    wrote_anyway (picture_name s) (IsSchedulesPage name s held text) held _ c.answer.result
    (wrote _ (picture_name s) c.picture_name.ensures (IsSchedulesPage name s held text) held _ _ c.in_ok-given.ensures.keeps
    c.as_bytes.result.now
    (schedules_page s held text (begun_so s held text c.in_ok-given.given c.in_ok-given.ensures.given) name t c.as_bytes.result.now
    (ap (λ (b : Begun). code_of b.accepted.typed) (sym given)) (ap (λ (b : Begun). lists_in b.input) (sym given)) are_shown shows)
    c.in_ok-write_file.ensures.written c.in_ok-write_file.ensures.others)
    c.answer.ensures.failure
