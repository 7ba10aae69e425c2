use Rattle.std.proofs.Common.{subst, sym}
use Rattle.types.specs.Code.{Code, Parts}
use Rattle.types.specs.Translation.{codes, number}
use Rattle.statement_steps.specs.Leading.{next_of}
use Rattle.step_trees.specs.Turns.{IsLoopOf}
use Rattle.step_trees.proofs.Leading.{after_led, led_loop}
use Rattle.step_trees.proofs.Turns.{after_as}
use Rattle.step_trees.proofs.turn.parts.Goals as goal

pub take-requires : goal.take-requires
take-requires c =
    let l = c.args.stmt.now.label in
    subst (λ (d : Code). IsLoopOf l d (next_of c.in_ok-next.next)) (sym c.requires.same)
    (led_loop c.args.turn c.begin_turns.new.self l (let s = c.args.pieces.now in Parts s.section.number (number s.size) s.piece.number s.turn.number (codes c.args.body.now)) c.in_ok-next.next c.in_ok-next.ensures)

pub returns : goal.returns
returns c =
    let l = c.args.stmt.now.label in
    after_as c.args.turn l c.take.result (sym c.requires.same)
    (after_led c.args.turn c.begin_turns.new.self l (let s = c.args.pieces.now in Parts s.section.number (number s.size) s.piece.number s.turn.number (codes c.args.body.now)) c.in_ok-next.next c.take.result tt c.requires.ready c.in_ok-next.ensures c.take.ensures)
