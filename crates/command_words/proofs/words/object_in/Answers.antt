use Rattle.command_line.specs.Requests.{asked_of}
use Rattle.command_words.proofs.Orders.{no_subject, object_is}
use Rattle.command_words.proofs.words.object_in.Goals as goal

pub returns-in_err-request : goal.returns-in_err-request
returns-in_err-request c x a asks told = absurd (c.in_err-request.ensures a asks)

pub returns-in_err-subject : goal.returns-in_err-subject
returns-in_err-subject c x a asks told =
    absurd (no_subject x (asked_of c.in_ok-request.request) a (c.in_ok-request.ensures a asks) c.in_err-subject.ensures told)

pub returns : goal.returns
returns c x a asks told =
    object_is x c.in_ok-subject.subject (asked_of c.in_ok-request.request) a (c.in_ok-request.ensures a asks)
    c.in_ok-subject.ensures told
