use Rattle.std.proofs.Common.{string_bytes}
use Rattle.json_answers.specs.Failing.{TellsFailure}
use Rattle.json_answers.proofs.Written.{flushed}
use Rattle.json_answers.proofs.writing.tell_refusal.Goals as goal

pub returns-in-Ok : goal.returns-in-Ok
returns-in-Ok g c =
    flushed (TellsFailure c.args.refused.file.now c.args.refused.text.now c.args.failure.now) _ _ _ c.append.result
    (string_bytes c.in-Ok.line) c.in-Ok.ensures (rw c.as_bytes.ensures.value at c.append.ensures) c.flush.ensures.bytes
