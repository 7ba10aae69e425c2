use Rattle.std.proofs.Common.{ℕ, map}
use Rattle.types.specs.Outcome.{outcome}
use Rattle.types.specs.Translation.{array, budget, outcome as outcome_of}
use Rattle.types.specs.Typed.{code_of}
use Rattle.command_line.specs.Requests.{settings}
use Rattle.command_line.specs.declared.request.Command.TheVariants.{Run}
use Rattle.commands.proofs.Answering.{declared_by, is_explored, outcome_shown, passes_on, shown}
use Rattle.driver.specs.Traced.{IsTraceOfText}
use Rattle.driver.specs.declared.tracing.Ran.{Ran}
use Rattle.driver.proofs.Leaving.{passes_failed, told_behind}
use Rattle.driver.proofs.performing.run_as_tasks.Goals as goal

pub returns-in_err-ran-clause-done : goal.returns-in_err-ran-clause-done
returns-in_err-ran-clause-done g c =
    let why = c.in_err-ran.ensures.why in
    passes_on Run (settings c.args.question.settings) (g.F.FileSource.held c.args.files.now) c.args.question.text.now _ _ _
    c.from_residual.ensures.1 why.why why.early

pub returns-in_err-ran-clause-trace : goal.returns-in_err-ran-clause-trace
returns-in_err-ran-clause-trace g c =
    let s = settings c.args.question.settings in let held = g.F.FileSource.held c.args.files.now in
    let traced = IsTraceOfText s held c.args.question.text.now in
    passes_failed Ran ℕ traced traced held _ (λ bytes is. is) s.trace _ _ c.from_residual.ensures.1 c.in_err-ran.ensures.trace

pub returns-clause-done : goal.returns-clause-done
returns-clause-done g c =
    let s = settings c.args.question.settings in let held = g.F.FileSource.held c.args.files.now in
    let text = c.args.question.text.now in let ran = c.in_ok-ran.ensures.ran in
    let p = code_of c.in_ok-ran.ran.given.accepted.typed in
    shown Run s held text _ _ c.show.result _ _
    (record {
      run = is_explored s held text p ran.accepted ran.input ran.given;
      shows = outcome_shown s.arrays p (outcome_of c.in_ok-ran.ran.outcome)
          (outcome p ran.input (budget c.args.question.settings.budget)) (map array c.deref.result.now) ran.is_outcome
          (declared_by _ _ _ _ c.deref.ensures.value c.code.ensures.field c.typed.ensures.field);
    })
    c.show.ensures.text c.show.ensures.status c.show.ensures.failure

pub returns-clause-trace : goal.returns-clause-trace
returns-clause-trace g c =
    let s = settings c.args.question.settings in let held = g.F.FileSource.held c.args.files.now in
    let traced = IsTraceOfText s held c.args.question.text.now in
    told_behind Ran ℕ traced traced held _ (λ bytes is. is) s.trace c.in_ok-ran.ran c.show.result c.in_ok-ran.ensures.trace
    c.show.ensures.failure
