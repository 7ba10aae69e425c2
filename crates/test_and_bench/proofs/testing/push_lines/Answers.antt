use Rattle.std.proofs.Common.{arith, ap, string_bytes, ◌∙◌, ◌++◌}
use Rattle.test_and_bench.proofs.Tested.{one_shown}
use Rattle.test_and_bench.proofs.testing.push_lines.Goals as goal

pub loop-one-preserved : goal.loop-one-preserved
loop-one-preserved c =
    one_shown c.args.tested.now c.loop-one.one-index _ _ c.one-item.result _ (omega arith) c.one-item.is
    (c.in_ok-push_str.ensures.bytes ∙ ap (λ t. string_bytes c.loop-one.text ++ t) c.as_str.ensures.value)
    ∙ c.loop-one.invariant
