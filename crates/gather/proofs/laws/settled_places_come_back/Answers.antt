use Rattle.gather.proofs.TasksGiveBack.{comes_back}
use Rattle.gather.proofs.laws.settled_places_come_back.Goals as goal

pub returns : goal.returns
returns c = comes_back
