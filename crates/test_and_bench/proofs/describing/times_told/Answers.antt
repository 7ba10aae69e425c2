use denote.Param.Send.{sendable}
use Rattle.std.proofs.Common.{ap, ◌∙◌, map, string_bytes, subst, sym}
use Rattle.std.proofs.lemmas.Result.{IfOk-weaker}
use Rattle.types.specs.Outcome.{outcome}
use Rattle.types.specs.Translation.{array, input as lists_of, outcome as outcome_of}
use Rattle.types.specs.Typed.{code_of}
use Rattle.cost.specs.declared.cost.Cost.{Cost as Numbers}
use Rattle.command_line.specs.Requests.{settings}
use Rattle.command_line.specs.declared.request.Command.TheVariants.{Run}
use Rattle.printing.specs.OutcomeText.{status_of}
use Rattle.commands.proofs.Answering.{begun_so, declared_by, err_passed, other_failure}
use Rattle.json_answers.specs.Objects.{FailsEarly}
use Rattle.json_answers.specs.Pieces.{line}
use Rattle.json_answers.proofs.Failures.{memory_early, memory_passed, not_begun_early}
use Rattle.test_and_bench.specs.TimesObject.{not_ended, timed as is_timed, times_json}
use Rattle.test_and_bench.proofs.Objects.{same_outcome}
use Rattle.test_and_bench.proofs.RunCauses.{no_run_explained, no_run_other}
use Rattle.test_and_bench.proofs.describing.times_told.Goals as goal

pub returns-in_err-given-clause-why : goal.returns-in_err-given-clause-why
returns-in_err-given-clause-why g c =
    let s = settings c.args.question.settings in let held = g.F.FileSource.held c.args.files.now in
    let text = c.args.question.text.now in
    err_passed c.from_residual.result _ (FailsEarly Run s held text) c.from_residual.ensures.1
    (not_begun_early Run s held text tt (λ code accepted. accepted) _ c.in_err-given.ensures.why)

pub returns-in_err-costed-clause-why : goal.returns-in_err-costed-clause-why
returns-in_err-costed-clause-why g c =
    let s = settings c.args.question.settings in let held = g.F.FileSource.held c.args.files.now in
    let text = c.args.question.text.now in
    err_passed c.from_residual-in_err-costed.result _ (FailsEarly Run s held text) c.from_residual-in_err-costed.ensures.1
    (subst (FailsEarly Run s held text) (sym c.in_err-costed.ensures.why) (memory_early Run s held text))

pub timed-requires : goal.timed-requires
timed-requires g c =
    let shared = c.type_bounds.sync-R in ((search sendable), c.in_ok-given.ensures.fits)

pub returns-in_err-timed-clause-why : goal.returns-in_err-timed-clause-why
returns-in_err-timed-clause-why g c =
    let s = settings c.args.question.settings in let held = g.F.FileSource.held c.args.files.now in
    let text = c.args.question.text.now in
    let run = begun_so s held text c.in_ok-given.given c.in_ok-given.ensures.given in
    err_passed c.from_residual-in_err-timed.result _ (FailsEarly Run s held text) c.from_residual-in_err-timed.ensures.1
    (record {
      why = no_run_explained s held text run _ c.in_err-timed.ensures.why;
      early = other_failure _ (no_run_other s _ c.in_err-timed.ensures.why);
    })

pub returns-then-status-eq0-clause-object : goal.returns-then-status-eq0-clause-object
returns-then-status-eq0-clause-object g c =
    let s = settings c.args.question.settings in let held = g.F.FileSource.held c.args.files.now in
    let text = c.args.question.text.now in
    let costed = c.in_ok-costed.ensures in let timed = c.in_ok-timed.timed in
    let shown = λ (n : Numbers). line (times_json timed n) in
    IfOk-weaker c.described.result _ _ (λ t is. record {
      run = begun_so s held text c.in_ok-given.given c.in_ok-given.ensures.given;
      tells = is_timed (ap status_of (sym costed.outcome) ∙ sym c.status.ensures ∙ c.if-status-eq0.true) timed
          c.in_ok-timed.ensures.five (is.0 ∙ ap shown costed.cost) is.1;
    }) c.described.ensures.object

pub returns-then-status-eq0-clause-why : goal.returns-then-status-eq0-clause-why
returns-then-status-eq0-clause-why g c =
    memory_passed Run (settings c.args.question.settings) (g.F.FileSource.held c.args.files.now) c.args.question.text.now
    c.described.result c.described.ensures.why

pub returns-clause-object : goal.returns-clause-object
returns-clause-object g c =
    let s = settings c.args.question.settings in let held = g.F.FileSource.held c.args.files.now in
    let text = c.args.question.text.now in let given = c.in_ok-given.given in
    let p = code_of given.accepted.typed in
    IfOk-weaker c.outcome_told.result _ _ (λ t tells. record {
      run = begun_so s held text given c.in_ok-given.ensures.given;
      tells = not_ended (λ is. c.if-status-eq0.false (c.status.ensures ∙ ap status_of c.in_ok-costed.ensures.outcome ∙ is))
          (same_outcome (map array c.deref.result.now) p.arrays (outcome_of c.in_ok-costed.costed.outcome)
          (outcome p (lists_of given.input) s.budget) text (string_bytes t.line) t.status
          (declared_by _ _ _ _ c.deref.ensures.value c.code.ensures.field c.typed.ensures.field) c.in_ok-costed.ensures.outcome tells);
    }) c.outcome_told.ensures.object

pub returns-clause-why : goal.returns-clause-why
returns-clause-why g c =
    memory_passed Run (settings c.args.question.settings) (g.F.FileSource.held c.args.files.now) c.args.question.text.now
    c.outcome_told.result c.outcome_told.ensures.why
