use Rattle.workers.proofs.Logged.{log_reason, log_reason_of}
use Rattle.workers.proofs.run.run_typed.Goals as goal

pub returns-in-Ok-told-clause-failed : goal.returns-in-Ok-told-clause-failed
returns-in-Ok-told-clause-failed g c =
    log_reason _ _ _ _ _ c.in-Err-close.ensures.failed (c.locked.ensures.0 (c.in-Ok.ensures.log.0 c.in-Err-close.ensures.logged))

pub returns-in-Err-NoReport-clause-failed : goal.returns-in-Err-NoReport-clause-failed
returns-in-Err-NoReport-clause-failed g c =
    log_reason _ _ _ _ _ c.in-Err-close-2.ensures.failed
    (c.locked.ensures.0 (c.in-Ok.ensures.log.0 c.in-Err-close-2.ensures.logged))

pub returns-in-Ok-close-clause-failed : goal.returns-in-Ok-close-clause-failed
returns-in-Ok-close-clause-failed g c =
    log_reason_of _ _ _ _ _ c.with_all_tasks.result c.with_all_tasks.ensures.failed c.with_all_tasks.ensures.logged
    (λ has. c.locked.ensures.0 (c.in-Ok.ensures.log.0 (c.in-Ok-close.ensures.kept.0 has)))
