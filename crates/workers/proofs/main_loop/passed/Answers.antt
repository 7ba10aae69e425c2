use Rattle.std.proofs.Common.{Option, Some, subst, sym}
use Rattle.std.proofs.lemmas.Result.{IfOk-weaker, IfErr-weaker}
use Rattle.task_run.specs.declared.job.Job.{Job}
use Rattle.workers.specs.Causes.{Happens}
use Rattle.workers.specs.Own.{IsNext, IsOwnNext}
use Rattle.workers.proofs.Passes.{next_own}
use Rattle.workers.proofs.main_loop.passed.Goals as goal

pub returns-clause-next : goal.returns-clause-next
returns-clause-next g c =
    IfOk-weaker c.pass.result (λ r. IsNext c.args.owner.value.job r.0) (λ r. IsOwnNext g.J.Running.job r.0)
    (λ r h. next_own g.J.Running.job c.args.owner.value.job r.0 c.requires.own.job h) c.pass.ensures.next

pub returns-clause-cause : goal.returns-clause-cause
returns-clause-cause g c =
    IfErr-weaker c.pass.result (Happens (Some c.args.owner.value.job)) (Happens g.J.Running.job)
    (λ e h. subst (λ (o : Option Job). Happens o e) (sym c.requires.own.job) h) c.pass.ensures.cause
