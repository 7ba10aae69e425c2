use Rattle.json_answers.proofs.Seen.{SeenFirst}
use Rattle.test_and_bench.specs.TestsObject.{judged_json}
use Rattle.test_and_bench.specs.Trials.{judged}
use Rattle.test_and_bench.proofs.tests_object.programs_value.Given as goal

-- the values so far represent the first results
abbrev pub invariant-loop-one : goal.invariant-loop-one
invariant-loop-one l = SeenFirst (λ t. judged_json (judged t)) l.tested l.one-index l.list.items
