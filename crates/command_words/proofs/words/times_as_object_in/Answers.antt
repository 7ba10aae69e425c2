use Rattle.std.proofs.Common.{ap}
use Rattle.command_words.specs.Orders.{TimesAsObject}
use Rattle.command_words.proofs.words.times_as_object_in.Goals as goal

pub returns-in_err-request : goal.returns-in_err-request
returns-in_err-request c a asks is = absurd (c.in_err-request.ensures a asks is)

pub returns : goal.returns
returns c a asks is = ap TimesAsObject (c.in_ok-request.ensures a asks is)
