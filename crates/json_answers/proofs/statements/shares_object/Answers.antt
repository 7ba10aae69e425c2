use Rattle.std.proofs.Common.{◌≤◌, ap, ◌∙◌, subst, sym}
use Rattle.serde_json.specs.Data.{depth}
use Rattle.serde_json.specs.Read.{max_depth}
use Rattle.serde_json.specs.Written.{has_float}
use Rattle.json_answers.proofs.StatementValues.{shares_have_none, shares_within}
use Rattle.json_answers.proofs.statements.shares_object.Goals as goal

pub line_of-requires : goal.line_of-requires
line_of-requires c =
    let same = c.in_ok-value.ensures in
    record {
      no_float = ap has_float same ∙ shares_have_none c.args.cost.now.costed.cost c.args.statements.now c.args.cost.now.work.items c.args.cost.now.span.items;
      shallow = subst (λ d. depth d ≤ max_depth) (sym same) (shares_within c.args.cost.now.costed.cost c.args.statements.now c.args.cost.now.work.items c.args.cost.now.span.items);
    }
