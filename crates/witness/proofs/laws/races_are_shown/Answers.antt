use Rattle.witness.proofs.Showing.{shown, together}
use Rattle.witness.proofs.laws.races_are_shown.Goals as goal

pub returns-clause-shown : goal.returns-clause-shown
returns-clause-shown c = λ p sound r race. shown p sound r race

pub returns-clause-together : goal.returns-clause-together
returns-clause-together c = λ p b kind one other x y m. together p m
