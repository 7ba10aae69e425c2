use Rattle.std.proofs.Common.{refl}
use Rattle.command_line.specs.Requests.{settings}
use Rattle.commands.proofs.Answering.{begun_so, err_passed}
use Rattle.viewing.specs.Views.{TellsNoTrace}
use Rattle.viewing.proofs.Viewing.{holds_so, not_begun, not_legal}
use Rattle.viewing.proofs.traces.trace_of.Goals as goal

pub returns-in_err-given-clause-why : goal.returns-in_err-given-clause-why
returns-in_err-given-clause-why g c =
    let s = settings c.args.question.settings in let held = g.F.FileSource.held c.args.files.now in
    let text = c.args.question.text.now in
    err_passed _ _ (TellsNoTrace s held text) c.from_residual.ensures.1 (not_begun s held text _ c.in_err-given.ensures.why)

pub returns-in_err-judge-clause-why : goal.returns-in_err-judge-clause-why
returns-in_err-judge-clause-why g c =
    let s = settings c.args.question.settings in let held = g.F.FileSource.held c.args.files.now in
    let text = c.args.question.text.now in let trace = c.in_ok-trace.trace in
    err_passed _ _ (TellsNoTrace s held text) c.from_residual-in_err-judge.ensures.1
    (not_legal s held text (begun_so s held text c.in_ok-given.given c.in_ok-given.ensures.given) trace.header trace.events.items
    (holds_so _ _ c.in_ok-given.ensures.keeps _ _ c.trace_name.ensures _ _ c.in_ok-trace.ensures.holds) _
    c.in_err-judge.ensures.why)

pub returns-clause-judged : goal.returns-clause-judged
returns-clause-judged g c = record {
  trace = record {
    run = begun_so (settings c.args.question.settings) (g.F.FileSource.held c.args.files.now) c.args.question.text.now
        c.in_ok-given.given c.in_ok-given.ensures.given;
    holds = holds_so _ _ c.in_ok-given.ensures.keeps _ _ c.trace_name.ensures _ _ c.in_ok-trace.ensures.holds;
    legal = c.in_ok-judge.ensures.legal;
  };
  code = refl;
  input = refl;
}
