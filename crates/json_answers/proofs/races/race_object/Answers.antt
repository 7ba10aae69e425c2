use Rattle.std.proofs.Common.{◌≤◌, ap, ◌∙◌, subst, sym}
use Rattle.serde_json.specs.Data.{depth}
use Rattle.serde_json.specs.Read.{max_depth}
use Rattle.serde_json.specs.Written.{has_float}
use Rattle.types.specs.Translation.{program}
use Rattle.race_checker.specs.Translation.{race}
use Rattle.json_answers.proofs.NoFloatsInRaces.{race_has_none}
use Rattle.json_answers.proofs.ShallowRaces.{race_within}
use Rattle.json_answers.proofs.races.race_object.Goals as goal

pub line_of-requires : goal.line_of-requires
line_of-requires c =
    let f = c.args.found in
    let same = c.in_ok-value.ensures in
    record {
      no_float = ap has_float same
          ∙ race_has_none c.args.file.now f.places.now (program f.code.now) (race f.race) f.witness.now f.reason.now;
      shallow = subst (λ d. depth d ≤ max_depth) (sym same)
          (race_within c.args.file.now f.places.now (program f.code.now) (race f.race) f.witness.now f.reason.now);
    }
