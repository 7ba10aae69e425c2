use Rattle.std.proofs.Common.{map, subst}
use Rattle.std.proofs.lemmas.Result.{IfOk-at_ok}
use Rattle.types.specs.Outcome.{outcome}
use Rattle.types.specs.Translation.{array, input as lists_of, outcome as outcome_of}
use Rattle.types.specs.Typed.{code_of}
use Rattle.statement_steps.specs.Watched.{Watches}
use Rattle.statement_steps.proofs.Watching.{behind_end}
use Rattle.command_line.specs.Requests.{settings}
use Rattle.command_line.specs.declared.request.Command.TheVariants.{Serial}
use Rattle.commands.proofs.Answering.{declared_of, outcome_shown, passes_not_given, shown}
use Rattle.commands.proofs.Looked.{fails_before}
use Rattle.commands.proofs.running.run_serially.Goals as goal

pub returns-in_err-given-clause-done : goal.returns-in_err-given-clause-done
returns-in_err-given-clause-done g c =
    passes_not_given Serial (settings c.args.question.settings) (g.F.FileSource.held c.args.files.now)
    c.args.question.text.now _ tt (λ code. tt) _ _ c.from_residual.ensures.1 c.in_err-given.ensures.why

pub returns-clause-done : goal.returns-clause-done
returns-clause-done g c =
    let s = settings c.args.question.settings in
    let p = code_of c.in_ok-given.given.typed in
    let input = lists_of c.in_ok-given.given.input in
    let arrays = declared_of _ _ c.in_ok-given.given.typed c.deref.ensures.value c.code.ensures.field in
    shown Serial s (g.F.FileSource.held c.args.files.now) c.args.question.text.now _ _ c.show.result _ _
    (record {
      code = p;
      input = input;
      given = c.in_ok-given.ensures.given;
      tells = outcome_shown s.arrays p (outcome_of c.in_ok-outcome.outcome) (outcome p input s.budget)
          (map array c.deref.result.now) (IfOk-at_ok _ c.in_ok-outcome.ensures.value c.on_one_thread-run.ensures.outcome) arrays;
    })
    c.show.ensures.text c.show.ensures.status c.show.ensures.failure

pub returns-in_err-given-clause-watched : goal.returns-in_err-given-clause-watched
returns-in_err-given-clause-watched g c =
    fails_before g.W.Watch.Told c.args.question.settings.progress c.from_residual.result _ c.from_residual.ensures.1 _
    (g.met.W.Watch.told_nothing _)

pub returns-clause-watched : goal.returns-clause-watched
returns-clause-watched g c =
    let asked = c.args.question.settings.progress in
    let old = c.args.watch.now in let new = c.on_one_thread-run.new.watch in
    behind_end g.W.Watch.Told _ asked c.in_ok-outcome.outcome c.show.result old new
    (subst (λ r. Watches g.W.Watch.Told asked r old new) c.in_ok-outcome.ensures.value c.on_one_thread-run.ensures.watched)
