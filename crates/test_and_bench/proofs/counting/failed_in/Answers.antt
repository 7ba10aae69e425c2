use Rattle.std.proofs.Common.{ap₂, sym, ◌-◌}
use Rattle.std.proofs.lemmas.List.{length-map}
use Rattle.test_and_bench.specs.Trials.{judged}
use Rattle.test_and_bench.proofs.counting.failed_in.Goals as goal

pub returns : goal.returns
returns c =
    ap₂ (λ n m. n - m) (sym (length-map c.args.tested.now judged)) c.passed_in.ensures.number
