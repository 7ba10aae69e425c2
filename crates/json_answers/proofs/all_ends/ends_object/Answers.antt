use Rattle.std.proofs.Common.{◌≤◌, ap, ◌∙◌, map, subst, sym}
use Rattle.serde_json.specs.Data.{depth}
use Rattle.serde_json.specs.Read.{max_depth}
use Rattle.serde_json.specs.Written.{has_float}
use Rattle.types.specs.Translation.{array}
use Rattle.json_answers.specs.AllEnds.{end_of}
use Rattle.json_answers.proofs.NoFloats.{ends_have_none}
use Rattle.json_answers.proofs.Shallow.{ends_within}
use Rattle.json_answers.proofs.all_ends.ends_object.Goals as goal

pub line_of-requires : goal.line_of-requires
line_of-requires c =
    let same = c.in_ok-value.ensures in
    let declared = map array c.args.declared.now in let found = c.args.found.now in
    let es = map end_of found.ends.items in
    record {
      no_float = ap has_float same ∙ ends_have_none declared c.args.places.now found.all es found.tried;
      shallow =
          subst (λ d. depth d ≤ max_depth) (sym same) (ends_within declared c.args.places.now found.all es found.tried);
    }
