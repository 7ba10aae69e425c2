use Rattle.std.proofs.Common.{arith}
use Rattle.std.proofs.lemmas.List.Sums.{common_prefix_len-le}
use Rattle.std.specs.Str.{bytes_eq}
use Rattle.test_and_bench.proofs.Ended.{none_in_common}
use Rattle.test_and_bench.proofs.hunks.common.Goals as goal

pub returns-clause-count : goal.returns-clause-count
returns-clause-count c =
    let told = c.args.told.now in let wanted = c.args.wanted.now in
    let none = none_in_common (λ line. line.now) c.loop-index.index told wanted
    (omega (arith, c.loop-index-test.false, c.min-most.ensures)) in
    let most = common_prefix_len-le (λ x y. bytes_eq x.now y.now) told wanted in
    omega (arith, c.loop-index-test.false, c.min-most.ensures, c.loop-index.invariant, none, most.0, most.1)
