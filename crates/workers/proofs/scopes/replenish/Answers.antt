use Rattle.std.proofs.Common.{ap, subst, sym}
use Rattle.workers.specs.Causes.{Happens, HappensAtScope}
use Rattle.workers.proofs.Refusals.{issued_nothing, issued_nothing_of}
use Rattle.workers.proofs.Turning.{more_own}
use Rattle.workers.proofs.scopes.replenish.Goals as goal

pub returns-in-Ok-clause-child : goal.returns-in-Ok-clause-child
returns-in-Ok-clause-child g c =
    (more_own g.J.Running.job c.args.wanting _ _ _ _ _ c.requires (ap (λ b. b.value) c.take_weight-weight.ensures.body)
    (ap (λ b. b.value) c.take_weight-weight.ensures.start) c.with_weight-task.ensures.parts).1

pub returns-clause-scope : goal.returns-clause-scope
returns-clause-scope g c =
    subst (HappensAtScope g.J.Running.job) (sym c.not_issued.ensures)
    (issued_nothing g.J.Running.job c.deref_mut.result.now c.in-Err.ensures.of_run c.take_weight-weight.result.0 c.in-Err.late.reason c.in-Err.ensures.case)

pub returns-clause-cause : goal.returns-clause-cause
returns-clause-cause g c =
    subst (Happens g.J.Running.job) (sym c.not_issued.ensures)
    (issued_nothing_of g.J.Running.job c.deref_mut.result.now c.in-Err.ensures.of_run c.take_weight-weight.result.0 c.in-Err.late.reason
    c.in-Err.ensures.case)
