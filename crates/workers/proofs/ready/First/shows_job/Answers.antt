use Rattle.std.proofs.Common.{◌∙◌, subst, sym}
use Rattle.std.proofs.lemmas.Option.{same_Some}
use Rattle.task_run.specs.Jobs.{IsJob}
use Rattle.workers.proofs.ready.First.shows_job.Goals as goal

pub returns : goal.returns
returns g c j is = subst IsJob (same_Some _ _ (sym c.self.invariant.job ∙ is)) c.self.invariant.task.goes.job
