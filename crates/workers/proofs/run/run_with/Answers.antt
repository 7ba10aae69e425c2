use Rattle.types.specs.Translation.{outcome}
use Rattle.workers.proofs.Logged.{told_by}
use Rattle.workers.proofs.run.run_with.Goals as goal

pub returns-clause-told : goal.returns-clause-told
returns-clause-told g c =
    told_by c.args.job c.args.settings.w0 (λ r. outcome r.0.outcome) (λ r. r.1) c.run_as.result c.run_as.ensures.outcome
    c.run_as.ensures.log
