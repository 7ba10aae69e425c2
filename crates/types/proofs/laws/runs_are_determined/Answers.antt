use Rattle.types.proofs.Solutions.{solves, is_only}
use Rattle.types.proofs.laws.runs_are_determined.Goals as goal

pub returns-clause-solves : goal.returns-clause-solves
returns-clause-solves g c p r = solves p r

pub returns-clause-only : goal.returns-clause-only
returns-clause-only g c p r = is_only p r
