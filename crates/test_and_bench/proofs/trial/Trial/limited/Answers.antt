use Rattle.test_and_bench.specs.Trials.{trial}
use Rattle.test_and_bench.proofs.Limited.{as_usual}
use Rattle.test_and_bench.proofs.trial.Trial.limited.Goals as goal

pub returns-else-self-clause-limited : goal.returns-else-self-clause-limited
returns-else-self-clause-limited g c =
    as_usual (g.F.FileSource.held c.args.files.now) (trial c.args.self.now) c.if-self.false
