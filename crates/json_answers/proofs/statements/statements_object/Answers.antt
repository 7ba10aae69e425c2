use Rattle.std.proofs.Common.{◌≤◌, ap, ◌∙◌, subst, sym}
use Rattle.serde_json.specs.Data.{depth}
use Rattle.serde_json.specs.Read.{max_depth}
use Rattle.serde_json.specs.Written.{has_float}
use Rattle.json_answers.proofs.StatementValues.{statements_have_none, statements_within}
use Rattle.json_answers.proofs.statements.statements_object.Goals as goal

pub line_of-requires : goal.line_of-requires
line_of-requires c =
    let same = c.in_ok-value.ensures in
    record {
      no_float = ap has_float same ∙ statements_have_none c.args.statements.now;
      shallow = subst (λ d. depth d ≤ max_depth) (sym same) (statements_within c.args.statements.now);
    }
