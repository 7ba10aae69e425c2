use Rattle.std.proofs.Common.{sym, subst}
use Rattle.std.specs.Prelude.{IfOk}
use Rattle.step_trees.specs.Translation.{next_label, next_code}
use Rattle.step_trees.specs.Turns.{After}
use Rattle.step_trees.proofs.turn.perform.Goals as goal

pub returns-in-Statement : goal.returns-in-Statement
returns-in-Statement c =
    subst (λ s. IfOk c.statement.result (After c.args.turn (next_label s) (next_code s))) (sym c.in-Statement.is) c.statement.ensures

pub returns-in-Turn : goal.returns-in-Turn
returns-in-Turn c =
    subst (λ s. IfOk c.next_turn.result (After c.args.turn (next_label s) (next_code s))) (sym c.in-Turn.is) c.next_turn.ensures
