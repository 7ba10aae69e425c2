use Rattle.std.proofs.Common.{◌≤◌, ap, ◌∙◌, subst, sym}
use Rattle.serde_json.specs.Data.{depth}
use Rattle.serde_json.specs.Read.{max_depth}
use Rattle.serde_json.specs.Written.{has_float}
use Rattle.test_and_bench.proofs.Objects.{times_have_none, times_within}
use Rattle.test_and_bench.proofs.times_object.times_object.Goals as goal

pub line_of-requires : goal.line_of-requires
line_of-requires c =
    let same = c.in_ok-value.ensures in
    record {
      no_float = ap has_float same ∙ times_have_none c.args.timed.now c.args.cost.now;
      shallow = subst (λ d. depth d ≤ max_depth) (sym same) (times_within c.args.timed.now c.args.cost.now);
    }
