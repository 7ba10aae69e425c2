use Rattle.std.proofs.Common.{◌≡◌, sym, subst}
use Rattle.std.specs.Prelude.{IfErr, IfOk, IfSome, Some}
use Rattle.types.specs.Translation.{outcome}
use Rattle.task_run.specs.Jobs.{outcome_of}
use Rattle.tickets.specs.Seats.{drawn_of}
use Rattle.workers.specs.WorkerStates.{AreBelow, Fails, TellTogether}
use Rattle.workers.proofs.Draws.{tell_err, tell_ok}
use Rattle.workers.proofs.reports.add.Goals as goal

pub returns-in-Ok-Some-clause-told : goal.returns-in-Ok-Some-clause-told
returns-in-Ok-Some-clause-told g c =
    let o = g.J.Running.job in let t = c.args._tickets.now in let j = c.args._job in let tasks = c.args._settings.tasks in
    let seat = c.args.report.seat in
    let low : AreBelow tasks (drawn_of seat) =
    subst (λ r. IfOk r (λ _. AreBelow tasks (drawn_of seat))) c.in-Ok-Some.is c.requires.report.below in
    let told : IfSome (Some c.in-Ok-Some.outcome) (λ x. outcome x ≡ outcome_of j) =
    subst (λ v. IfSome v (λ x. outcome x ≡ outcome_of j)) c.in-Ok-Some.field-0-is
    (subst (λ r. IfOk r (λ v. IfSome v (λ x. outcome x ≡ outcome_of j))) c.in-Ok-Some.is c.requires.report.told) in
    subst (TellTogether o t j tasks (Some c.in-Ok-Some.outcome) c.args.reports.error) (sym c.in_ok-push.ensures.items)
    (tell_ok o t j tasks c.args.reports.outcome (Some c.in-Ok-Some.outcome) c.args.reports.error c.args.reports.seats.items seat
    c.requires.so_far c.requires.report.of low told)

pub returns-in-Err-clause-told : goal.returns-in-Err-clause-told
returns-in-Err-clause-told g c =
    let o = g.J.Running.job in let t = c.args._tickets.now in let j = c.args._job in let tasks = c.args._settings.tasks in
    let seat = c.args.report.seat in
    let fails : Fails o t tasks seat c.in-Err.other =
    subst (λ r. IfErr r (Fails o t tasks seat)) c.in-Err.is c.requires.report.failed in
    subst (TellTogether o t j tasks c.args.reports.outcome (Some c.first_of.result)) (sym c.in_ok-push.ensures.items)
    (tell_err o t j tasks c.args.reports.outcome c.args.reports.error c.args.reports.seats.items seat c.in-Err.other
    c.first_of.result c.requires.so_far fails c.first_of.ensures)
