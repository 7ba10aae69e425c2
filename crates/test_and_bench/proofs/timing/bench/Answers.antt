use denote.Param.Send.{sendable}
use Rattle.std.proofs.Common.{ap, ◌∙◌, false, map, refl, sym}
use Rattle.types.specs.Outcome.{outcome}
use Rattle.types.specs.Translation.{array, input as lists_of, outcome as outcome_of}
use Rattle.types.specs.Typed.{code_of}
use Rattle.command_line.specs.Requests.{settings}
use Rattle.command_line.specs.declared.request.Command.TheVariants.{Run}
use Rattle.printing.specs.OutcomeText.{status_of}
use Rattle.commands.proofs.Answering.{begun_so, declared_by, not_begun_explained, not_begun_other, outcome_shown}
use Rattle.test_and_bench.specs.Times.{not_ended, timed, times_text}
use Rattle.test_and_bench.proofs.RunCauses.{no_run_explained, no_run_other}
use Rattle.test_and_bench.proofs.Told.{times_passed, times_told, times_without_memory}
use Rattle.test_and_bench.proofs.timing.bench.Goals as goal

pub returns-in_err-given-clause-done : goal.returns-in_err-given-clause-done
returns-in_err-given-clause-done g c =
    let s = settings c.args.question.settings in let held = g.F.FileSource.held c.args.files.now in
    let text = c.args.question.text.now in let b = g.O.Write.contents c.args.out.now in
    times_passed s held text _ _ _ c.from_residual.ensures.1
    (not_begun_explained Run tt s held text b (λ code accepted. accepted) _ c.in_err-given.ensures.why)
    (not_begun_other Run tt s held text b (λ code accepted. accepted) _ c.in_err-given.ensures.why)

pub told-requires : goal.told-requires
told-requires g c =
    let shared = c.type_bounds.sync-R in ((search sendable), c.in_ok-given.ensures.fits)

pub returns-in_err-costed-clause-done : goal.returns-in_err-costed-clause-done
returns-in_err-costed-clause-done g c =
    times_without_memory (settings c.args.question.settings) (g.F.FileSource.held c.args.files.now)
    c.args.question.text.now _ _ _ c.from_residual-in_err-costed.ensures.1 c.in_err-costed.ensures.why

pub returns-in_err-told-clause-done : goal.returns-in_err-told-clause-done
returns-in_err-told-clause-done g c =
    let s = settings c.args.question.settings in let held = g.F.FileSource.held c.args.files.now in
    let text = c.args.question.text.now in
    let run = begun_so s held text c.in_ok-given.given c.in_ok-given.ensures.given in
    times_passed s held text _ _ _ c.from_residual-in_err-told.ensures.1
    (no_run_explained s held text run _ c.in_err-told.ensures.why) (no_run_other s _ c.in_err-told.ensures.why)

pub returns-then-status-eq0-clause-done : goal.returns-then-status-eq0-clause-done
returns-then-status-eq0-clause-done g c =
    let s = settings c.args.question.settings in let held = g.F.FileSource.held c.args.files.now in
    let text = c.args.question.text.now in
    times_told s held text _ _ c.answer.result _ 0
    (record {
      run = begun_so s held text c.in_ok-given.given c.in_ok-given.ensures.given;
      tells = timed (ap status_of (sym c.in_ok-costed.ensures.outcome) ∙ sym c.status.ensures ∙ c.if-status-eq0.true)
          c.in_ok-told.ensures.text.0 c.in_ok-told.ensures.text.1
          (c.as_str.ensures.value ∙ c.in_ok-told.ensures.text.2 ∙ ap (times_text c.in_ok-told.ensures.text.0) c.in_ok-costed.ensures.cost)
          refl;
    })
    c.answer.ensures.text c.answer.ensures.status c.answer.ensures.failure

pub returns-clause-done : goal.returns-clause-done
returns-clause-done g c =
    let s = settings c.args.question.settings in let held = g.F.FileSource.held c.args.files.now in
    let text = c.args.question.text.now in let given = c.in_ok-given.given in
    let p = code_of given.accepted.typed in
    times_told s held text _ _ c.show.result _ _
    (record {
      run = begun_so s held text given c.in_ok-given.ensures.given;
      tells = not_ended (λ is. c.if-status-eq0.false (c.status.ensures ∙ ap status_of c.in_ok-costed.ensures.outcome ∙ is))
          (outcome_shown false p (outcome_of c.in_ok-costed.costed.outcome) (outcome p (lists_of given.input) s.budget)
          (map array c.deref.result.now) c.in_ok-costed.ensures.outcome
          (declared_by _ _ _ _ c.deref.ensures.value c.code.ensures.field c.typed.ensures.field));
    })
    c.show.ensures.text c.show.ensures.status c.show.ensures.failure
