use Rattle.std.proofs.Common.{rules, subst}
use Rattle.workers.specs.Own.{IsOwnTurn}
use Rattle.workers.proofs.main_loop.Shared.noted_turn.Goals as goal

pub loop-preserved : goal.loop-preserved
loop-preserved g c =
    (search rules, search rules, subst (IsOwnTurn g.J.Running.job) c.in-Going.is c.in_ok-turn.ensures.next)

pub returns-then-is_over : goal.returns-then-is_over
returns-then-is_over g c =
    record { next = subst (IsOwnTurn g.J.Running.job) c.in-Going.is c.in_ok-turn.ensures.next; cause = tt }
