use Rattle.std.proofs.Common.{List, ℕ, refl, subst, sym}
use Rattle.std.proofs.lemmas.Result.{IfOk-at_ok}
use Rattle.command_line.specs.Requests.{settings}
use Rattle.commands.proofs.Answering.{answered}
use Rattle.viewing.specs.Views.{AnswersTrace, ExplainsTrace, TellsTrace, command_by}
use Rattle.viewing.proofs.Viewing.{views_no_trace}
use Rattle.viewing.proofs.tables.view.Goals as goal

pub returns-in_err-judged-clause-done : goal.returns-in_err-judged-clause-done
returns-in_err-judged-clause-done g c =
    let s = settings c.args.question.settings in let held = g.F.FileSource.held c.args.files.now in
    views_no_trace s held c.args.question.text.now (command_by c.args.look) _ _ _ c.from_residual.ensures.1
    c.in_err-judged.ensures.why

pub returns-clause-done : goal.returns-clause-done
returns-clause-done g c =
    let s = settings c.args.question.settings in let held = g.F.FileSource.held c.args.files.now in
    let text = c.args.question.text.now in let by = command_by c.args.look in let trace = c.in_ok-judged.judged.trace in
    answered (AnswersTrace by s held text) (ExplainsTrace by s held text) _ _ c.answer.result c.as_str.result.now 0 tt
    (record {
      header = trace.header;
      events = trace.events.items;
      trace = c.in_ok-judged.ensures.judged.trace;
      tells = subst (λ (told : List ℕ). TellsTrace by trace.header trace.events.items told) (sym c.as_str.ensures.value)
          (IfOk-at_ok _ c.in_ok-told.ensures.value c.shown.ensures);
      status_is = refl;
    })
    c.answer.ensures.text c.answer.ensures.status c.answer.ensures.failure
