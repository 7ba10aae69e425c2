use Rattle.std.proofs.Common.{◌≤◌, ap, ◌∙◌, subst, sym}
use Rattle.serde_json.specs.Data.{depth}
use Rattle.serde_json.specs.Read.{max_depth}
use Rattle.serde_json.specs.Written.{has_float}
use Rattle.parallel_relation.specs.Pairs.{pairs_left}
use Rattle.json_answers.proofs.NoFloats.{pairs_have_none}
use Rattle.json_answers.proofs.Shallow.{pairs_within}
use Rattle.json_answers.proofs.programs.pairs_object.Goals as goal

pub line_of-requires : goal.line_of-requires
line_of-requires c =
    let same = c.in_ok-value.ensures in
    record {
      no_float = ap has_float same ∙ pairs_have_none (pairs_left c.args.pairs);
      shallow = subst (λ d. depth d ≤ max_depth) (sym same) (pairs_within (pairs_left c.args.pairs));
    }
