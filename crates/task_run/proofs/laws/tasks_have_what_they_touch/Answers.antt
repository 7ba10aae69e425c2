use Rattle.task_run.specs.Given.{in_truth}
use Rattle.task_run.proofs.HoldingTurns.{root_begins, turn_holds, handed_holds, first_has, again_has, async_has}
use Rattle.task_run.proofs.laws.tasks_have_what_they_touch.Goals as goal

pub returns-clause-root : goal.returns-clause-root
returns-clause-root c p needs input nest scoped calm provides f = root_begins p needs scoped calm provides input nest f

pub returns-clause-begins : goal.returns-clause-begins
returns-clause-begins c p needs fresh s h = record { stack = h.stack; texts = (h.text, tt); carried = tt; parted = tt; returns = tt }

pub returns-clause-turns : goal.returns-clause-turns
returns-clause-turns c p needs fresh s scoped calm provides f fs st h =
    turn_holds p needs scoped calm provides s.nest (in_truth p needs fresh) f fs st h

pub returns-clause-leaves : goal.returns-clause-leaves
returns-clause-leaves c p needs fresh root s scoped calm provides rs all before fs st task h x e =
    handed_holds p needs scoped calm provides fresh root s rs all before fs st task h x e

pub returns-clause-first : goal.returns-clause-first
returns-clause-first c p needs fresh s scoped calm provides l d rest fs st h =
    first_has p needs scoped calm provides s.nest (in_truth p needs fresh) l d rest fs st h

pub returns-clause-again : goal.returns-clause-again
returns-clause-again c p needs fresh s scoped calm provides l t b fs st h =
    again_has p needs scoped calm provides s.nest (in_truth p needs fresh) l t b fs st h

pub returns-clause-needed : goal.returns-clause-needed
returns-clause-needed c p needs fresh s scoped calm provides l b rest fs st h =
    async_has p needs scoped calm provides s.nest (in_truth p needs fresh) l b rest fs st h

pub returns-clause-parted : goal.returns-clause-parted
returns-clause-parted c p needs fs st h = h.parted
