use Rattle.workers.proofs.Turning.{turns_own}
use Rattle.workers.proofs.main_loop.advance.Goals as goal

pub returns : goal.returns
returns g c =
    turns_own g.J.Running.job _ c.args.task c.advance.result c.requires c.advance.ensures.turn c.advance.ensures.tasks
