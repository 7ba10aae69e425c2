use Rattle.std.proofs.Common.{◌≤◌, ap, map, ◌∙◌, subst, sym}
use Rattle.serde_json.specs.Data.{depth}
use Rattle.serde_json.specs.Read.{max_depth}
use Rattle.serde_json.specs.Written.{has_float}
use Rattle.test_and_bench.specs.Trials.{judged}
use Rattle.test_and_bench.proofs.Objects.{tests_have_none, tests_within}
use Rattle.test_and_bench.proofs.tests_object.tests_object.Goals as goal

pub line_of-requires : goal.line_of-requires
line_of-requires c =
    let same = c.in_ok-value.ensures in
    record {
      no_float = ap has_float same ∙ tests_have_none (map judged c.args.tested.now);
      shallow = subst (λ d. depth d ≤ max_depth) (sym same) (tests_within (map judged c.args.tested.now));
    }
