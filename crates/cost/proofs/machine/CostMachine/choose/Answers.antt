use Rattle.std.proofs.lemmas.Result.{on_ok_weaker}
use Rattle.types.specs.Code.{If}
use Rattle.types.specs.Translation.{codes, program, truth}
use Rattle.cost.proofs.Going.{does_led, led_below, led_sound, less_led, less_step}
use Rattle.cost.proofs.machine.CostMachine.choose.Goals as goal

pub take-requires-clause-sound : goal.take-requires-clause-sound
take-requires-clause-sound c =
    let m = c.args.self.now in
    led_sound m c.choose.new.self c.args.label (If (truth c.args.guard.now) (codes c.args.body.now) (codes c.args.other.now)) c.in_ok-next.next c.in_ok-next.ensures c.requires.sound

pub take-requires-clause-below : goal.take-requires-clause-below
take-requires-clause-below c =
    let m = c.args.self.now in
    led_below (program m.plan.program.now) m.thread c.choose.new.self c.args.label (If (truth c.args.guard.now) (codes c.args.body.now) (codes c.args.other.now)) c.in_ok-next.next c.in_ok-next.ensures
    c.requires.sound.thread

pub returns-clause-does : goal.returns-clause-does
returns-clause-does c =
    let m = c.args.self.now in
    on_ok_weaker c.take.result
    (does_led m c.choose.new.self c.take.new.self c.args.label (If (truth c.args.guard.now) (codes c.args.body.now) (codes c.args.other.now)) c.in_ok-next.next tt c.requires c.in_ok-next.ensures)
    c.take.ensures.does

pub returns-clause-ends : goal.returns-clause-ends
returns-clause-ends c =
    let m = c.args.self.now in
    on_ok_weaker c.take.result
    (λ less. less_step m c.take.new.self
    (less_led m c.choose.new.self c.take.new.self c.args.label (If (truth c.args.guard.now) (codes c.args.body.now) (codes c.args.other.now)) c.in_ok-next.next c.in_ok-next.ensures less))
    c.take.ensures.ends
