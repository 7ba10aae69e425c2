use Rattle.syntax.proofs.Deepest.{one_deepest}
use Rattle.syntax.proofs.Refused.{one_error}
use Rattle.syntax.proofs.laws.texts_are_refused_for_one_reason.Goals as goal

pub returns-clause-one : goal.returns-clause-one
returns-clause-one c = one_error

pub returns-clause-place : goal.returns-clause-place
returns-clause-place c = one_deepest
