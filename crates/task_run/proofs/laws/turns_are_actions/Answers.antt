use Rattle.task_run.specs.Given.{in_truth}
use Rattle.task_run.proofs.TurnActions.{turn_does, follower_waits}
use Rattle.task_run.proofs.TaskRuns.{goes_on}
use Rattle.task_run.proofs.laws.turns_are_actions.Goals as goal

pub returns-clause-adds : goal.returns-clause-adds
returns-clause-adds c p needs fresh s f fs st = turn_does p needs s.nest (in_truth p needs fresh) f fs st

pub returns-clause-firsts : goal.returns-clause-firsts
returns-clause-firsts c p needs fresh root s fs st h = goes_on p needs fresh root s fs st h

pub returns-clause-waits : goal.returns-clause-waits
returns-clause-waits c p needs fresh root s taken before fs st w h = follower_waits p needs fresh root s taken before fs st w h
