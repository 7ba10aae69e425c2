use Rattle.std.proofs.Common.{refl}
use Rattle.test_and_bench.specs.Trials.{printed, unprinted}
use Rattle.test_and_bench.proofs.trial.Trial.printed_so.Goals as goal

pub returns-in_ok-line_if_written-in-Ok-clause-verdict : goal.returns-in_ok-line_if_written-in-Ok-clause-verdict
returns-in_ok-line_if_written-in-Ok-clause-verdict g c =
    printed c.in-Ok.written c.in-Ok.ensures.written refl c.in_ok-line_if_written-in-Ok.ensures.line

pub returns-in_ok-failed-in-Err-clause-verdict : goal.returns-in_ok-failed-in-Err-clause-verdict
returns-in_ok-failed-in-Err-clause-verdict g c =
    unprinted c.in-Err.failure c.in-Err.ensures.why c.failing.ensures.passes
    (rw c.failing.ensures.lines c.in_ok-failed-in-Err.ensures.line)
