use Rattle.std.proofs.Common.{ℕ, map, string_bytes}
use Rattle.std.proofs.lemmas.Result.{IfOk-weaker}
use Rattle.types.specs.Outcome.{outcome}
use Rattle.types.specs.Translation.{array, budget, outcome as outcome_of}
use Rattle.types.specs.Typed.{code_of}
use Rattle.command_line.specs.Requests.{settings}
use Rattle.command_line.specs.declared.request.Command.TheVariants.{Run}
use Rattle.commands.proofs.Answering.{declared_by, err_passed, is_explored}
use Rattle.json_answers.specs.Objects.{FailsEarly}
use Rattle.json_answers.proofs.Failures.{memory_passed}
use Rattle.driver.specs.Traced.{IsTraceOfText}
use Rattle.driver.specs.declared.tracing.Ran.{Ran}
use Rattle.driver.proofs.Leaving.{passes_failed}
use Rattle.driver.proofs.Objects.{same_outcome, status_err, traced_behind}
use Rattle.driver.proofs.as_object.run_told.Goals as goal

pub returns-in_err-ran-clause-why : goal.returns-in_err-ran-clause-why
returns-in_err-ran-clause-why g c =
    let s = settings c.args.question.settings in let held = g.F.FileSource.held c.args.files.now in
    err_passed c.from_residual.result _ (FailsEarly Run s held c.args.question.text.now) c.from_residual.ensures.1
    c.in_err-ran.ensures.why

pub returns-in_err-ran-clause-trace : goal.returns-in_err-ran-clause-trace
returns-in_err-ran-clause-trace g c =
    let s = settings c.args.question.settings in let held = g.F.FileSource.held c.args.files.now in
    let traced = IsTraceOfText s held c.args.question.text.now in
    passes_failed Ran ℕ traced traced held _ (λ bytes is. is) s.trace _ _
    (status_err c.from_residual.result _ c.from_residual.ensures.1) c.in_err-ran.ensures.trace

pub returns-clause-object : goal.returns-clause-object
returns-clause-object g c =
    let ran = c.in_ok-ran.ensures.ran in let text = c.args.question.text.now in
    let p = code_of c.in_ok-ran.ran.given.accepted.typed in
    IfOk-weaker c.outcome_told.result _ _ (λ t tells. record {
      run = is_explored (settings c.args.question.settings) (g.F.FileSource.held c.args.files.now) text p ran.accepted
          ran.input ran.given;
      tells = same_outcome (map array c.deref.result.now) p.arrays (outcome_of c.in_ok-ran.ran.outcome)
          (outcome p ran.input (budget c.args.question.settings.budget)) text (string_bytes t.line) t.status
          (declared_by _ _ _ _ c.deref.ensures.value c.code.ensures.field c.typed.ensures.field) ran.is_outcome tells;
    }) c.outcome_told.ensures.object

pub returns-clause-why : goal.returns-clause-why
returns-clause-why g c =
    memory_passed Run (settings c.args.question.settings) (g.F.FileSource.held c.args.files.now) c.args.question.text.now
    c.outcome_told.result c.outcome_told.ensures.why

pub returns-clause-trace : goal.returns-clause-trace
returns-clause-trace g c =
    let s = settings c.args.question.settings in let held = g.F.FileSource.held c.args.files.now in
    let traced = IsTraceOfText s held c.args.question.text.now in
    traced_behind Ran traced traced held _ (λ bytes is. is) s.trace c.in_ok-ran.ran c.outcome_told.result
    c.in_ok-ran.ensures.trace c.outcome_told.ensures.why
