use Rattle.std.proofs.Common.{◌≤◌, ap, ◌∙◌, refl, subst, sym}
use Rattle.serde_json.specs.Data.{depth}
use Rattle.serde_json.specs.Read.{max_depth}
use Rattle.serde_json.specs.Written.{has_float}
use Rattle.json_answers.proofs.Shallow.{formatted_within}
use Rattle.json_answers.proofs.programs.formatted_object.Goals as goal

pub line_of-requires : goal.line_of-requires
line_of-requires c =
    let same = c.in_ok-value.ensures in
    record {
      no_float = ap has_float same ∙ refl;
      shallow = subst (λ d. depth d ≤ max_depth) (sym same) formatted_within;
    }
