use Rattle.std.proofs.Common.{◌≡◌, length, rules}
use Rattle.tickets.specs.Seats.{seats_of}
use Rattle.workers.proofs.Silence.{own_error, reported_reason, silent_if}
use Rattle.workers.proofs.reports.finish.Goals as goal

pub returns-in-Err-clause-failed : goal.returns-in-Err-clause-failed
returns-in-Err-clause-failed g c =
    let o = g.J.Running.job in let t = c.args.tickets in let tasks = c.args._settings.tasks in
    let r = c.args.reports in
    let all : length r.seats.items ≡ seats_of t = search rules in
    reported_reason o t c.args._job tasks c.close-tasks.result.number _ r.outcome r.error c.in-Err.error
    r.seats.items c.requires.told.of all c.close-tasks.ensures.once c.requires.told.failed c.in-Err.ensures.error

pub returns-in-Err-clause-silent : goal.returns-in-Err-clause-silent
returns-in-Err-clause-silent g c =
    let o = g.J.Running.job in let t = c.args.tickets in let tasks = c.args._settings.tasks in
    let r = c.args.reports in
    let own = own_error o t tasks r.seats.items r.error c.requires.told.failed in
    silent_if _ r.outcome r.error c.in-Err.error own c.in-Err.ensures.error
