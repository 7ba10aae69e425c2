use Rattle.std.proofs.Common.{subst, codes}
use Rattle.files.specs.Held.{Held, TellsNoText}
use Rattle.test_and_bench.specs.Trials.{file, trial, not_refused, unread, with_another}
use Rattle.test_and_bench.proofs.Trying.{refused_as}
use Rattle.test_and_bench.proofs.trial.Trial.line_of_refusal.Goals as goal

pub returns-in-Ok-clause-line : goal.returns-in-Ok-clause-line
returns-in-Ok-clause-line g c = not_refused c.in-Ok.field-0 c.in-Ok.ensures.begun c.in_ok-not_refused-in-Ok.ensures.line

pub returns-in-Ok-None-clause-line : goal.returns-in-Ok-None-clause-line
returns-in-Ok-None-clause-line g c =
    let held = g.F.FileSource.held c.args.files.now in
    refused_as held _ (trial c.args.self.now) c.in-Err.failure _ _ c.in-Err.ensures.why c.in-Err.ensures.keeps
    c.in-Ok-None.field-0-is c.in-Ok-None.ensures.how

pub returns-in-Ok-Some-clause-line : goal.returns-in-Ok-Some-clause-line
returns-in-Ok-Some-clause-line g c =
    let held = g.F.FileSource.held c.args.files.now in
    with_another c.in-Ok-Some.how.items
    (refused_as held _ (trial c.args.self.now) c.in-Err.failure _ _ c.in-Err.ensures.why c.in-Err.ensures.keeps
    c.in-Ok-Some.field-0-is c.in-Ok-Some.ensures.how)
    c.in_ok-otherwise-in-Ok-Some.ensures.line

pub returns-clause-line : goal.returns-clause-line
returns-clause-line g c =
    let t = trial c.args.self.now in
    let f = c.in-Err-difference_of_refusal.unread in
    unread f (subst (λ (h : Held). TellsNoText h (file t (codes ".err")) f) c.in-Err.ensures.keeps
    c.in-Err-difference_of_refusal.ensures.why) c.in_ok-failed-in-Err-difference_of_refusal.ensures.line
