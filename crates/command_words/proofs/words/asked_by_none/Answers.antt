use Rattle.std.proofs.Common.{[], ap, ◌∙◌}
use Rattle.command_line.specs.Requests.{Asked, acting}
use Rattle.command_line.specs.declared.request.Telling.{Telling}
use Rattle.command_words.proofs.Reading.{asked_by, is_some_and}
use Rattle.command_words.proofs.words.asked_by_none.Goals as goal

pub returns : goal.returns
returns c a asks =
    let line = c.line_of_none.result.0 in
    let by = asked_by [] a line c.line_of_none.result.1 asks c.line_of_none.ensures in
    let told : Telling → Asked = λ t. record (acting line.action line.file.now by.options) { telling = t } in
    is_some_and c.request_in.result (ap told c.telling.ensures ∙ by.asked)
    (c.request_in.ensures by.options by.right by.texts)
