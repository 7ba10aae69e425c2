use Rattle.std.proofs.Common.{ap, map}
use Rattle.std.specs.String.{string_bytes}
use Rattle.command_line.specs.Requests.{Asked}
use Rattle.command_words.proofs.Orders.{run_asked}
use Rattle.command_words.proofs.limits.limits_in.Goals as goal

pub returns-in_err-request : goal.returns-in_err-request
returns-in_err-request c a p =
    absurd (c.in_err-request.ensures a (run_asked (map string_bytes c.args.behind.now) a p) p.tested)

pub returns : goal.returns
returns c a p =
    let same = c.in_ok-request.ensures a (run_asked (map string_bytes c.args.behind.now) a p) p.tested in
    (ap (λ (b : Asked). b.settings.budget) same, ap (λ (b : Asked). b.settings.spread) same)
