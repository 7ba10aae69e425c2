use Rattle.json_answers.proofs.GivenBack.{program_given_back}
use Rattle.json_answers.proofs.laws.arrays_are_given_back.Goals as goal

pub returns : goal.returns
returns c = program_given_back
