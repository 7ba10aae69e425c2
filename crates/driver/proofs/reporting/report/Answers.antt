use Rattle.std.proofs.Common.{Ok, Err}
use Rattle.driver.proofs.Acting.{followed, reported, reported_by}
use Rattle.driver.proofs.reporting.report.Goals as goal

pub returns-in-Ok : goal.returns-in-Ok
returns-in-Ok g c =
    reported_by c.args.more _ _ c.args.done (Ok c.in-Ok.answered) _ c.in-Ok.is
    (followed c.args.more _ _ c.in-Ok.answered _ (rw c.in-Ok.is at c.requires.said.quiet)
    c.follow.ensures.status c.follow.ensures.told)

pub returns-in-Err : goal.returns-in-Err
returns-in-Err g c =
    reported_by c.args.more _ _ c.args.done (Err c.in-Err.refusal) _ c.in-Err.is
    (reported c.args.more _ _ c.in-Err.refusal _ (rw c.in-Err.is at c.requires.said.bare) c.tell.ensures.status
    c.tell.ensures.told)
