use Rattle.std.proofs.Common.{string_bytes}
use Rattle.std.proofs.lemmas.Result.{IfOk-weaker}
use Rattle.json_answers.proofs.Written.{placed_told}
use Rattle.json_answers.proofs.failed.placed_line.Goals as goal

pub returns : goal.returns
returns c =
    IfOk-weaker c.refusal_object.result _ _ (λ object same.
    placed_told c.args.refused.file.now c.args.refused.text.now (string_bytes object) c.args.failure.now
    c.in_ok-places.places.items c.deref.result.now c.in_ok-reason.reason c.deref.ensures.value c.in_ok-places.ensures same)
    c.refusal_object.ensures.text
