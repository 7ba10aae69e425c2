use Rattle.std.proofs.Common.{◌≡◌}
use Rattle.std.proofs.lemmas.Result.{IfOk-weaker}
use Rattle.witness.specs.Known.{steps}
use Rattle.witness.proofs.Knowns.{least_known, least_unpassed}
use Rattle.witness.proofs.search.way_from.Goals as goal

pub returns-then-passed-sought : goal.returns-then-passed-sought
returns-then-passed-sought c = least_unpassed c.args.known.now c.args.entry c.args.step _ c.if-passed-sought.true

pub returns : goal.returns
returns c =
    IfOk-weaker c.led_from.result _ _
    (λ found e. least_known c.args.known.now c.args.entry c.args.step (c.args.passed.number ≡ c.args.sought.access.section.number) (steps found) e
    c.if-passed-sought.false) c.led_from.ensures
