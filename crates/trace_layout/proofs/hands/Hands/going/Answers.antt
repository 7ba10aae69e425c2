use Rattle.std.proofs.Common.{sym}
use Rattle.trace_layout.proofs.hands.Hands.going.Goals as goal

pub returns-then-is_going-clause-same : goal.returns-then-is_going-clause-same
returns-then-is_going-clause-same c =
    λ es n was. (was.tasks c.args.path.now c.in_ok-place.field-0.now (sym c.in_ok-place.ensures.value)).same
