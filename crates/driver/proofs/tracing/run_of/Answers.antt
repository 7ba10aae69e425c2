use denote.Param.Send.{sendable}
use Rattle.std.proofs.Common.{Ok}
use Rattle.types.specs.Translation.{input as lists_of}
use Rattle.types.specs.Typed.{code_of}
use Rattle.types.specs.declared.outcome.Outcome.{Outcome}
use Rattle.command_line.specs.Requests.{settings}
use Rattle.command_line.specs.declared.request.Command.TheVariants.{Run}
use Rattle.commands.proofs.Answering.{begun_so, err_passed}
use Rattle.json_answers.specs.Objects.{FailsEarly}
use Rattle.json_answers.proofs.Failures.{not_begun_early}
use Rattle.driver.specs.Traced.{IsTraceOf, IsTraceOfText}
use Rattle.driver.specs.declared.tracing.Ran.{Ran}
use Rattle.driver.proofs.Leaving.{early_not_begun, passes_early, passes_failed, told_behind, traced_since}
use Rattle.driver.proofs.Objects.{no_run_early}
use Rattle.driver.proofs.tracing.run_of.Goals as goal

pub returns-in_err-given-clause-why : goal.returns-in_err-given-clause-why
returns-in_err-given-clause-why g c =
    let s = settings c.args.question.settings in let held = g.F.FileSource.held c.args.files.now in
    let text = c.args.question.text.now in
    err_passed c.from_residual.result _ (FailsEarly Run s held text) c.from_residual.ensures.1
    (not_begun_early Run s held text tt (λ code accepted. accepted) _ c.in_err-given.ensures.why)

pub returns-in_err-given-clause-trace : goal.returns-in_err-given-clause-trace
returns-in_err-given-clause-trace g c =
    let s = settings c.args.question.settings in let held = g.F.FileSource.held c.args.files.now in
    let text = c.args.question.text.now in
    passes_early Ran (IsTraceOfText s held text) held _ c.in_err-given.ensures.keeps s.trace _ _
    c.from_residual.ensures.1 (early_not_begun s held text _ c.in_err-given.ensures.why)

pub outcome_of-requires : goal.outcome_of-requires
outcome_of-requires g c =
    let shared = c.type_bounds.sync-R in ((search sendable), c.in_ok-given.ensures.fits)

pub returns-in_err-outcome-clause-why : goal.returns-in_err-outcome-clause-why
returns-in_err-outcome-clause-why g c =
    let s = settings c.args.question.settings in let held = g.F.FileSource.held c.args.files.now in
    let text = c.args.question.text.now in
    err_passed c.from_residual-in_err-outcome.result _ (FailsEarly Run s held text)
    c.from_residual-in_err-outcome.ensures.1
    (no_run_early s held text (begun_so s held text c.in_ok-given.given c.in_ok-given.ensures.given) _
    c.in_err-outcome.ensures.why)

pub returns-in_err-outcome-clause-trace : goal.returns-in_err-outcome-clause-trace
returns-in_err-outcome-clause-trace g c =
    let s = settings c.args.question.settings in let held = g.F.FileSource.held c.args.files.now in
    let text = c.args.question.text.now in let given = c.in_ok-given.given in
    let traced = IsTraceOf (code_of given.accepted.typed) (lists_of given.input) s in
    let run = begun_so s held text given c.in_ok-given.ensures.given in
    passes_failed Outcome Ran traced (IsTraceOfText s held text) held _ (λ bytes t. record { run = run; trace = t }) s.trace _ _
    c.from_residual-in_err-outcome.ensures.1
    (traced_since traced _ held _ c.in_ok-given.ensures.keeps s.trace _ c.in_err-outcome.ensures.trace)

pub returns-clause-ran : goal.returns-clause-ran
returns-clause-ran g c = record {
  accepted = c.in_ok-given.given.accepted.no_clash;
  input = lists_of c.in_ok-given.given.input;
  given = c.in_ok-given.ensures.given;
  is_outcome = c.in_ok-outcome.ensures.outcome;
}

pub returns-clause-trace : goal.returns-clause-trace
returns-clause-trace g c =
    let s = settings c.args.question.settings in let held = g.F.FileSource.held c.args.files.now in
    let text = c.args.question.text.now in let given = c.in_ok-given.given in
    let traced = IsTraceOf (code_of given.accepted.typed) (lists_of given.input) s in
    let run = begun_so s held text given c.in_ok-given.ensures.given in
    told_behind Outcome Ran traced (IsTraceOfText s held text) held _ (λ bytes t. record { run = run; trace = t }) s.trace
    c.in_ok-outcome.outcome (Ok (record { given = given; outcome = c.in_ok-outcome.outcome }))
    (traced_since traced _ held _ c.in_ok-given.ensures.keeps s.trace _ c.in_ok-outcome.ensures.trace) tt
