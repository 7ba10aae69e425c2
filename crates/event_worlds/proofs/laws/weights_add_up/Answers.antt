use Rattle.event_worlds.proofs.Reached.{weights_add_up, tasks_weigh, nobody_is_left}
use Rattle.event_worlds.proofs.LateWeights.{none_is_late}
use Rattle.event_worlds.proofs.laws.weights_add_up.Goals as goal

pub returns-clause-books : goal.returns-clause-books
returns-clause-books c w0 least does hands_on = weights_add_up w0 does hands_on least

pub returns-clause-tasks : goal.returns-clause-tasks
returns-clause-tasks c w0 least does hands_on = tasks_weigh w0 does hands_on least

pub returns-clause-nobody : goal.returns-clause-nobody
returns-clause-nobody c w0 least does hands_on = nobody_is_left w0 does hands_on least

pub returns-clause-late : goal.returns-clause-late
returns-clause-late c w0 least does hands_on root es w leads path t lives k s among there =
    none_is_late w0 does hands_on least root es w leads path t k s lives among there
