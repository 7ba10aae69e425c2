use Rattle.std.proofs.Common.{◌≤◌, ap, ◌∙◌, map, subst, sym}
use Rattle.serde_json.specs.Data.{depth}
use Rattle.serde_json.specs.Read.{max_depth}
use Rattle.serde_json.specs.Written.{has_float}
use Rattle.step_trees.specs.Standing.{candidate_of}
use Rattle.json_answers.proofs.NoFloats.{open_has_none}
use Rattle.json_answers.proofs.Shallow.{open_within}
use Rattle.json_answers.proofs.standings.open_object.Goals as goal

pub line_of-requires : goal.line_of-requires
line_of-requires c =
    let same = c.in_ok-value.ensures in
    let tasks = map candidate_of c.args.tasks.now in
    record {
      no_float = ap has_float same ∙ open_has_none c.args.places.now tasks;
      shallow = subst (λ d. depth d ≤ max_depth) (sym same) (open_within c.args.places.now tasks);
    }
