use Rattle.std.proofs.Common.{◌≡◌, subst, sym}
use Rattle.std.specs.Prelude.{IsSomeAnd}
use Rattle.command_line.specs.Requests.{Asked, asked_of}
use Rattle.command_words.specs.Orders.{IsTested}
use Rattle.command_words.proofs.words.tested_in.Goals as goal

pub returns-in_err-request : goal.returns-in_err-request
returns-in_err-request c a asks is = absurd (c.in_err-request.ensures a asks is.timed)

pub returns : goal.returns
returns c a asks is =
    let same = c.in_ok-request.ensures a asks is.timed in
    subst (λ (b : Asked). IsSomeAnd c.tested.result (λ r. asked_of r ≡ b)) same
    (c.tested.ensures (subst IsTested (sym same) is))
