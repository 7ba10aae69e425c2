use Rattle.std.proofs.Common.{string_bytes}
use Rattle.std.proofs.lemmas.Result.{IfOk-weaker}
use Rattle.viewing.specs.Views.{ShowsSchedules}
use Rattle.viewing.proofs.schedules.page_of_shown.Goals as goal

pub returns : goal.returns
returns c =
    IfOk-weaker c.page_of.result _
    (λ page. ShowsSchedules c.args.program.now c.args.text.now c.args.shown.now (string_bytes page))
    (λ page is. record { labels = _; page = is }) c.page_of.ensures
