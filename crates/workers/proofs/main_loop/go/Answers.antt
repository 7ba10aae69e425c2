use Rattle.workers.proofs.Turning.{turns_own}
use Rattle.workers.proofs.main_loop.go.Goals as goal

pub returns : goal.returns
returns g c =
    turns_own g.J.Running.job _ c.args.task c.go.result c.requires.own c.go.ensures.turn c.go.ensures.tasks
