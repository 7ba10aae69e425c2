use Rattle.std.proofs.Common.{map, subst, sym}
use Rattle.sections.specs.Translation.{section}
use Rattle.types.specs.Code.{Code, Call}
use Rattle.types.specs.Translation.{number}
use Rattle.statement_steps.specs.Leading.{next_of}
use Rattle.step_trees.specs.Turns.{IsLoopOf}
use Rattle.step_trees.proofs.Leading.{after_led, led_call, led_loop}
use Rattle.step_trees.proofs.Turns.{after_as}
use Rattle.step_trees.proofs.turn.call.Goals as goal

pub take-requires : goal.take-requires
take-requires c =
    let l = c.args.stmt.now.label in
    subst (λ (d : Code). IsLoopOf l d (next_of c.in_ok-next.next)) (sym c.requires.same)
    (led_loop c.args.turn c.call.new.self l (Call c.args.procedure.number (map number c.args.values.now) (map section c.args.sections.now)) c.in_ok-next.next (led_call c.args.turn c.call.new.self l c.args.procedure.number c.of-called.result c.args.values c.args.sections
    c.in_ok-next.next c.of-called.ensures.values c.of-called.ensures.sections
    (c.in_ok-next.ensures c.args.procedure.number c.of-called.ensures.body)))

pub returns : goal.returns
returns c =
    let l = c.args.stmt.now.label in
    after_as c.args.turn l c.take.result (sym c.requires.same)
    (after_led c.args.turn c.call.new.self l (Call c.args.procedure.number (map number c.args.values.now) (map section c.args.sections.now)) c.in_ok-next.next c.take.result tt c.requires.ready (led_call c.args.turn c.call.new.self l c.args.procedure.number c.of-called.result c.args.values c.args.sections
    c.in_ok-next.next c.of-called.ensures.values c.of-called.ensures.sections
    (c.in_ok-next.ensures c.args.procedure.number c.of-called.ensures.body)) c.take.ensures)
