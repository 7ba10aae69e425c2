use Rattle.std.proofs.Common.{◌≤◌, ap, ◌∙◌, subst, sym}
use Rattle.serde_json.specs.Data.{depth}
use Rattle.serde_json.specs.Read.{max_depth}
use Rattle.serde_json.specs.Written.{has_float}
use Rattle.json_answers.proofs.NoFloats.{refusal_has_none}
use Rattle.json_answers.proofs.Shallow.{refusal_within}
use Rattle.json_answers.proofs.refusals.refusal_object.Goals as goal

pub line_of-requires : goal.line_of-requires
line_of-requires c =
    let same = c.in_ok-value.ensures in
    record {
      no_float = ap has_float same ∙ refusal_has_none c.args.file.now c.args.places.now c.args.failure.now c.args.reason.now;
      shallow = subst (λ d. depth d ≤ max_depth) (sym same) (refusal_within c.args.file.now c.args.places.now c.args.failure.now c.args.reason.now);
    }
