use Rattle.task_run.proofs.NextAction.{next_is_done, next_is_end, next_is_last}
use Rattle.task_run.proofs.laws.turns_do_the_next_action.Goals as goal

pub returns-clause-done : goal.returns-clause-done
returns-clause-done c p needs fresh root s taken f fs st a fine below h e = next_is_done p needs fresh root s taken f fs st a fine below h e

pub returns-clause-finish : goal.returns-clause-finish
returns-clause-finish c p needs fresh root s taken before fs st w h = next_is_end p needs fresh root s taken before fs st w h

pub returns-clause-end : goal.returns-clause-end
returns-clause-end c p needs fresh root s taken st w h = next_is_last p needs fresh root s taken st w h
