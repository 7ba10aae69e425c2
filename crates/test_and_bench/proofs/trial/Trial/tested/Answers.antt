use Rattle.test_and_bench.proofs.trial.Trial.tested.Goals as goal

pub returns-clause-judged : goal.returns-clause-judged
returns-clause-judged g c =
    record { file_is = c.in_ok-file.ensures.name; verdict = c.in_ok-verdict.ensures.verdict }
