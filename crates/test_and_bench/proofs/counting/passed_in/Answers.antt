use Rattle.std.proofs.Common.{◌≤◌, length, arith, ◌∙◌}
use Rattle.test_and_bench.proofs.Tested.{all_counted, few_counted, one_counted}
use Rattle.test_and_bench.proofs.counting.passed_in.Goals as goal

pub loop-one-preserved : goal.loop-one-preserved
loop-one-preserved c =
    let passes = c.one-item.result.verdict.passes in let i = c.loop-one.one-index in
    record {
      number = one_counted c.args.tested.now i c.loop-one.passed _ c.one-item.result _ (omega arith) c.one-item.is
          c.counted-passed.ensures
          ∙ c.loop-one.invariant.number;
      few = few_counted passes c.loop-one.passed _ i c.counted-passed.ensures c.loop-one.invariant.few;
    }

pub returns-clause-number : goal.returns-clause-number
returns-clause-number c =
    let all : length c.args.tested.now ≤ c.loop-one.one-index = omega arith in
    all_counted c.args.tested.now c.loop-one.one-index c.loop-one.passed all c.loop-one.invariant.number
