use Rattle.std.proofs.Common.{arith}
use Rattle.test_and_bench.proofs.Wording.{one_more_word}
use Rattle.test_and_bench.proofs.own_options.words_of.Goals as goal

pub loop-line-preserved : goal.loop-line-preserved
loop-line-preserved c =
    one_more_word c.deref-line-items.result.now c.loop-line.line-index _ c.in_ok-from_str-2.field-0 _ _ _ (omega arith)
    c.in_ok-from_str-2.ensures.ok c.in_ok-push-2.ensures.items c.loop-line.invariant
