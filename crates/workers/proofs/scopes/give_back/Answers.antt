use Rattle.workers.proofs.Refusals.{took_nothing}
use Rattle.workers.proofs.scopes.give_back.Goals as goal

pub returns-clause-scope : goal.returns-clause-scope
returns-clause-scope g c = took_nothing g.J.Running.job c.deref_mut-inner.result.now c.in-Err.ensures.of_run c.args.weight c.in-Err.late.reason c.in-Err.ensures.reason c.in-Err.ensures.case

pub returns-clause-cause : goal.returns-clause-cause
returns-clause-cause g c = took_nothing g.J.Running.job c.deref_mut-inner.result.now c.in-Err.ensures.of_run c.args.weight c.in-Err.late.reason c.in-Err.ensures.reason c.in-Err.ensures.case
