use Rattle.std.proofs.lemmas.Result.{IfOk-weaker}
use Rattle.json_answers.proofs.failed.bare_line.Goals as goal

pub returns : goal.returns
returns c =
    IfOk-weaker c.refusal_object.result _ _ (λ object same. record { reason = c.in_ok-reason.reason; told_is = same })
    c.refusal_object.ensures.text
