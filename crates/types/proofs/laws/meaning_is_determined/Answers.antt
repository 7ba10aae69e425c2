use Rattle.types.specs.Meaning.{one_rules}
use Rattle.types.proofs.Larger.{one_is_thrifty}
use Rattle.types.proofs.Solutions.{solves, is_only}
use Rattle.types.proofs.laws.meaning_is_determined.Goals as goal

pub returns-clause-solves : goal.returns-clause-solves
returns-clause-solves c p fresh nest = solves p (one_rules p fresh nest) (one_is_thrifty p fresh nest)

pub returns-clause-only : goal.returns-clause-only
returns-clause-only c p fresh nest = is_only p (one_rules p fresh nest) (one_is_thrifty p fresh nest)
