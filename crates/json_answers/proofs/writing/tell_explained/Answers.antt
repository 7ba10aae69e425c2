use Rattle.std.proofs.Common.{string_bytes}
use Rattle.std.proofs.KnownBytes.{Keeps-refl}
use Rattle.json_answers.specs.Failing.{TellsFailure, untold}
use Rattle.json_answers.proofs.Written.{flushed}
use Rattle.json_answers.proofs.writing.tell_explained.Goals as goal

pub returns-in-Ok-clause-told : goal.returns-in-Ok-clause-told
returns-in-Ok-clause-told g c =
    flushed (TellsFailure c.args.request.file.now c.args.text.now c.args.failure.now) _ _ _ c.append.result
    (string_bytes c.in-Ok.told.line) c.in-Ok.ensures.told (rw c.as_bytes.ensures.value at c.append.ensures) c.flush.ensures.bytes

pub returns-in-Err-clause-told : goal.returns-in-Err-clause-told
returns-in-Err-clause-told g c = untold (Keeps-refl _)
