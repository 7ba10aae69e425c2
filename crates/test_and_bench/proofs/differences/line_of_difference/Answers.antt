use Rattle.std.proofs.Common.{◌∙◌, sym, arith}
use Rattle.test_and_bench.proofs.Ended.{one_has_ended}
use Rattle.test_and_bench.proofs.differences.line_of_difference.Goals as goal

pub returns : goal.returns
returns c =
    sym (c.loop-index.invariant.left
    ∙ one_has_ended c.loop-index.line c.loop-index.index c.args.told.now c.args.wanted.now
    (omega (arith, c.loop-index-test.false, c.min-index-end.ensures)))
