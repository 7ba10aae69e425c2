use Rattle.std.proofs.Common.{subst}
use Rattle.std.proofs.lemmas.Result.{IfOk-weaker}
use Rattle.files.specs.Held.{Held}
use Rattle.std.specs.String.{string_bytes}
use Rattle.test_and_bench.specs.Trials.{IsPrinted, not_understood, options_unread, trial, under_limits, without_limits}
use Rattle.test_and_bench.proofs.Limited.{lacks_so, limited_so}
use Rattle.test_and_bench.proofs.trial.Trial.printed.Goals as goal

pub returns-in-Ok-Some-clause-verdict : goal.returns-in-Ok-Some-clause-verdict
returns-in-Ok-Some-clause-verdict g c =
    let held = g.F.FileSource.held c.args.files.now in let u = trial c.in-Ok-Some.trial in
    let is = limited_so held (trial c.args.self.now) _ _ c.in-Ok-Some.field-0-is c.in-Ok-Some.ensures.limited in
    IfOk-weaker c.printed_so.result _ _ (λ v printed. under_limits u is
    (subst (λ (h : Held). IsPrinted h u (g.F.FileSource.held c.printed_so.new.files) v.passes (string_bytes v.lines)) c.in-Ok-Some.ensures.keeps printed))
    c.printed_so.ensures.verdict

pub returns-in_ok-not_understood-in-Ok-None-clause-verdict : goal.returns-in_ok-not_understood-in-Ok-None-clause-verdict
returns-in_ok-not_understood-in-Ok-None-clause-verdict g c =
    let held = g.F.FileSource.held c.args.files.now in
    let lacks = lacks_so held (trial c.args.self.now) _ c.in-Ok-None.field-0-is c.in-Ok-None.ensures.limited in
    without_limits
    (not_understood lacks (rw c.failing.ensures.lines c.in_ok-not_understood-in-Ok-None.ensures.line))
    c.in-Ok-None.ensures.keeps c.failing.ensures.passes

pub returns-in_ok-failed-in-Err-clause-verdict : goal.returns-in_ok-failed-in-Err-clause-verdict
returns-in_ok-failed-in-Err-clause-verdict g c =
    without_limits
    (options_unread c.in-Err.failure c.in-Err.ensures.why
    (rw c.failing-in-Err.ensures.lines c.in_ok-failed-in-Err.ensures.line))
    c.in-Err.ensures.keeps c.failing-in-Err.ensures.passes
