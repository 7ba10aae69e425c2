use Rattle.std.proofs.Common.{map, ap, ◌∙◌, ◌∷◌}
use Rattle.std.specs.String.{string_bytes}
use Rattle.command_line.specs.Requests.{Asked, acting}
use Rattle.command_line.specs.declared.request.Telling.{Telling}
use Rattle.command_words.proofs.Reading.{asked_by, asked_is_read, is_some_and}
use Rattle.command_words.proofs.words.asked_in.Goals as goal

pub returns-in_err-line : goal.returns-in_err-line
returns-in_err-line c a asks =
    absurd (asked_is_read (c.args.command.now ∷ map string_bytes c.args.behind.now) a c.in_err-line.ensures asks)

pub returns : goal.returns
returns c a asks =
    let line = c.in_ok-line.line in
    let by = asked_by (c.args.command.now ∷ map string_bytes c.args.behind.now) a line c.in_ok-line.manner asks
    c.in_ok-line.ensures in
    let told : Telling → Asked = λ t. record (acting line.action line.file.now by.options) { telling = t } in
    is_some_and c.request_in.result (ap told c.telling.ensures ∙ by.asked)
    (c.request_in.ensures by.options by.right by.texts)
