use Rattle.std.proofs.Common.{ap, ◌∙◌}
use Rattle.std.proofs.lemmas.Result.{IfOk-weaker}
use Rattle.serde_json.specs.Data.{string}
use Rattle.json_answers.specs.Pieces.{or_null}
use Rattle.json_answers.proofs.statements.text_value.Goals as goal

pub returns : goal.returns
returns c =
    IfOk-weaker c.text_or_null.result _ _ (λ v is. is ∙ ap (or_null string) c.head_at.ensures) c.text_or_null.ensures
