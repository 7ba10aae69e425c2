use Rattle.race_checker.proofs.Clashing.{has_clash-exact}
use Rattle.race_checker.proofs.Deciding.{accepted_exact}
use Rattle.race_checker.proofs.laws.acceptance_is_decided.Goals as goal

pub returns-clause-clash : goal.returns-clause-clash
returns-clause-clash c = has_clash-exact

pub returns-clause-accepted : goal.returns-clause-accepted
returns-clause-accepted c = accepted_exact
