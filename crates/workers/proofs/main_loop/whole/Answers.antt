use Rattle.std.proofs.lemmas.Result.{IfOk-weaker}
use Rattle.weighted_task.specs.Turns.{EndsWhole}
use Rattle.workers.specs.Own.{IsOwnWhole}
use Rattle.workers.proofs.Turning.{whole_own}
use Rattle.workers.proofs.main_loop.whole.Goals as goal

pub returns : goal.returns
returns g c =
    IfOk-weaker c.run_whole.result (EndsWhole c.args.child) (IsOwnWhole g.J.Running.job)
    (λ w. whole_own g.J.Running.job c.args.child w c.requires.own) c.run_whole.ensures
