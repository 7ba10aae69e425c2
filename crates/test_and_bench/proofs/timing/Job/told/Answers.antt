use Rattle.test_and_bench.proofs.timing.Job.told.Goals as goal

pub returns-in-Ok-clause-text : goal.returns-in-Ok-clause-text
returns-in-Ok-clause-text g c = (c.in_ok-timed.timed, c.in_ok-timed.ensures.five, c.in-Ok.ensures)
