use Rattle.std.proofs.Common.{ap, ◌≡◌, ◌∙◌, subst, sym}
use Rattle.std.specs.Prelude.{IsSomeAnd}
use Rattle.command_line.specs.Requests.{Asked, asked_of}
use Rattle.command_words.specs.Orders.{IsTimed, subject_of}
use Rattle.command_words.specs.declared.order.Subject.TheVariants.{Run as RunTold}
use Rattle.command_words.proofs.Orders.{no_subject, subject_is}
use Rattle.command_words.proofs.words.timed_in.Goals as goal

pub returns-in_err-request : goal.returns-in_err-request
returns-in_err-request c a asks is = absurd (c.in_err-request.ensures a asks)

pub returns-in_err-of : goal.returns-in_err-of
returns-in_err-of c a asks is =
    absurd (no_subject RunTold (asked_of c.in_ok-request.request) a (c.in_ok-request.ensures a asks) c.in_err-of.ensures
    (ap subject_of is.parallel))

pub returns-in-Run : goal.returns-in-Run
returns-in-Run c a asks is =
    let same = c.in_ok-request.ensures a asks in
    subst (λ (b : Asked). IsSomeAnd c.timed.result (λ r. asked_of r ≡ b)) same
    (c.timed.ensures (subst IsTimed (sym same) is))

pub returns-in_default : goal.returns-in_default
returns-in_default c a asks is =
    c.in_default.not-Run (subject_is c.in_ok-of.field-0 RunTold
    (c.in_ok-of.ensures ∙ ap (λ (b : Asked). subject_of b.action) (c.in_ok-request.ensures a asks) ∙ ap subject_of is.parallel))
