use Rattle.race_checker.proofs.Calming.{is_calm}
use Rattle.race_checker.proofs.laws.accepted_programs_are_calm.Goals as goal

pub returns : goal.returns
returns c = is_calm
