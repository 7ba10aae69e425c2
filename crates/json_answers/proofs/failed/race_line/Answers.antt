use Rattle.std.proofs.Common.{string_bytes}
use Rattle.std.proofs.lemmas.Result.{IfOk-weaker}
use Rattle.types.specs.Translation.{program}
use Rattle.json_answers.proofs.Written.{race_told}
use Rattle.json_answers.proofs.failed.race_line.Goals as goal

pub returns : goal.returns
returns c =
    IfOk-weaker c.race_object.result _ _ (λ object same.
    race_told c.args.refused.file.now c.args.refused.text.now (string_bytes object) c.args.found.now
    (program c.code.result.now) c.in_ok-places.places.items c.deref.result.now c.args.witness.now c.in_ok-reason.reason
    c.requires.shows c.requires.shortest c.code.ensures.code c.deref.ensures.value c.in_ok-places.ensures same)
    c.race_object.ensures.text
