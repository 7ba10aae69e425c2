use Rattle.std.proofs.Common.{refl}
use Rattle.commands.proofs.Answering.{err_passed}
use Rattle.test_and_bench.specs.Trials.{TellsNoOptions, trial}
use Rattle.test_and_bench.proofs.Limited.{lacking, no_options_memory, with_limits}
use Rattle.test_and_bench.proofs.trial.Trial.with_options.Goals as goal

pub returns-in_err-text-clause-why : goal.returns-in_err-text-clause-why
returns-in_err-text-clause-why g c =
    let held = g.F.FileSource.held c.args.files.now in
    err_passed c.from_residual.result _ (TellsNoOptions held (trial c.args.self.now)) c.from_residual.ensures.1
    (c.requires, c.in_err-text.ensures.why)

pub returns-in-Ok-None-clause-limited : goal.returns-in-Ok-None-clause-limited
returns-in-Ok-None-clause-limited g c =
    let held = g.F.FileSource.held c.args.files.now in
    lacking held (trial c.args.self.now) _ _ _ c.requires c.in_ok-text.ensures.text c.as_str.ensures.value
    c.in-Ok-None.field-0-is c.in-Ok-None.ensures

pub returns-in-Ok-Some-clause-limited : goal.returns-in-Ok-Some-clause-limited
returns-in-Ok-Some-clause-limited g c =
    let held = g.F.FileSource.held c.args.files.now in
    with_limits held (trial c.args.self.now) _ _ _ c.in-Ok-Some.limits c.requires c.in_ok-text.ensures.text
    c.as_str.ensures.value c.in-Ok-Some.field-0-is c.in-Ok-Some.ensures

pub returns-clause-why : goal.returns-clause-why
returns-clause-why g c =
    let held = g.F.FileSource.held c.args.files.now in
    no_options_memory held (trial c.args.self.now) _ c.requires refl
