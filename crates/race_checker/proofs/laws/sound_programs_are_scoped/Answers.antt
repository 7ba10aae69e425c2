use Rattle.race_checker.proofs.Scoping.{is_scoped}
use Rattle.race_checker.proofs.laws.sound_programs_are_scoped.Goals as goal

pub returns : goal.returns
returns c = is_scoped
