use Rattle.test_and_bench.specs.Trials.{not_understood, of_options, options_unread, trial}
use Rattle.test_and_bench.proofs.Limited.{lacks_so, limited_so, output_so}
use Rattle.test_and_bench.proofs.trial.Trial.line_of_run.Goals as goal

pub returns-in-Ok-Some-clause-line : goal.returns-in-Ok-Some-clause-line
returns-in-Ok-Some-clause-line g c =
    let held = g.F.FileSource.held c.args.files.now in
    output_so held _ (trial c.args.self.now) (trial c.in-Ok-Some.trial) c.in-Ok-Some.ensures.keeps
    (limited_so held (trial c.args.self.now) _ _ c.in-Ok-Some.field-0-is c.in-Ok-Some.ensures.limited)
    c.line_of_output.result c.line_of_output.ensures.line

pub returns-in_ok-not_understood-in-Ok-None-clause-line : goal.returns-in_ok-not_understood-in-Ok-None-clause-line
returns-in_ok-not_understood-in-Ok-None-clause-line g c =
    let held = g.F.FileSource.held c.args.files.now in
    of_options (not_understood (lacks_so held (trial c.args.self.now) _ c.in-Ok-None.field-0-is c.in-Ok-None.ensures.limited)
    c.in_ok-not_understood-in-Ok-None.ensures.line)

pub returns-in_ok-failed-in-Err-clause-line : goal.returns-in_ok-failed-in-Err-clause-line
returns-in_ok-failed-in-Err-clause-line g c =
    of_options (options_unread c.in-Err.failure c.in-Err.ensures.why c.in_ok-failed-in-Err.ensures.line)
