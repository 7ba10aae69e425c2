use Rattle.std.proofs.Common.{◌≤◌, ap, ◌∙◌, subst, sym}
use Rattle.serde_json.specs.Data.{depth}
use Rattle.serde_json.specs.Read.{max_depth}
use Rattle.serde_json.specs.Written.{has_float}
use Rattle.std.proofs.Common.{map}
use Rattle.types.specs.Translation.{array, outcome}
use Rattle.json_answers.proofs.NoFloats.{outcome_has_none}
use Rattle.json_answers.proofs.Shallow.{outcome_within}
use Rattle.json_answers.proofs.outcomes.outcome_object.Goals as goal

pub line_of-requires : goal.line_of-requires
line_of-requires c =
    let same = c.in_ok-value.ensures in
    record {
      no_float = ap has_float same ∙ outcome_has_none (map array c.args.declared.now) c.args.places.now (outcome c.args.outcome.now);
      shallow = subst (λ d. depth d ≤ max_depth) (sym same) (outcome_within (map array c.args.declared.now) c.args.places.now (outcome c.args.outcome.now));
    }
