use Rattle.commands.proofs.Looked.{fails_before}
use Rattle.json_answers.proofs.running.serial_told.Goals as goal

pub returns-in_err-given-clause-watched : goal.returns-in_err-given-clause-watched
returns-in_err-given-clause-watched g c =
    fails_before g.W.Watch.Told c.args.question.settings.progress c.from_residual.result _ c.from_residual.ensures.1 _
    (g.met.W.Watch.told_nothing _)
