use Rattle.std.proofs.Common.{subst, sym}
use Rattle.types.specs.Code.{Code, While}
use Rattle.types.specs.Translation.{codes, truth}
use Rattle.statement_steps.specs.Leading.{next_of}
use Rattle.step_trees.specs.Turns.{IsLoopOf}
use Rattle.step_trees.proofs.Leading.{after_led, led_loop}
use Rattle.step_trees.proofs.Turns.{after_as}
use Rattle.step_trees.proofs.turn.turn_loop.Goals as goal

pub take-requires : goal.take-requires
take-requires c =
    let l = c.args.stmt.now.label in
    subst (λ (d : Code). IsLoopOf l d (next_of c.in_ok-next.next)) (sym c.requires.same)
    (led_loop c.args.turn c.turn_loop.new.self l (While (truth c.args.guard.now) (codes c.args.body.now)) c.in_ok-next.next c.in_ok-next.ensures)

pub returns : goal.returns
returns c =
    let l = c.args.stmt.now.label in
    after_as c.args.turn l c.take.result (sym c.requires.same)
    (after_led c.args.turn c.turn_loop.new.self l (While (truth c.args.guard.now) (codes c.args.body.now)) c.in_ok-next.next c.take.result tt c.requires.ready c.in_ok-next.ensures c.take.ensures)
