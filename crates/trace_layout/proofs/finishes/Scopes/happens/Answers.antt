use Rattle.std.proofs.Common.{ap, refl}
use Rattle.trace_layout.specs.Finishes.{is_opening}
use Rattle.trace_layout.proofs.Opened.{no_opening, scopes_later}
use Rattle.trace_layout.proofs.finishes.Scopes.happens.Goals as goal

pub returns-in-Park : goal.returns-in-Park
returns-in-Park c = λ es at was.
    scopes_later es c.args.number c.args.event.now c.park.new.self c.park.new.self at (ap is_opening c.in-Park.is) refl refl refl
    (c.park.ensures es c.args.number was)

pub returns-in_ok-push-in-End : goal.returns-in_ok-push-in-End
returns-in_ok-push-in-End c = λ es at was.
    scopes_later es c.args.number c.args.event.now c.args.self.now _ at (ap is_opening c.in-End.is) refl refl refl was

pub returns-in-Pass : goal.returns-in-Pass
returns-in-Pass c = λ es at was.
    scopes_later es c.args.number c.args.event.now c.pass.new.self c.pass.new.self at (ap is_opening c.in-Pass.is) refl refl refl
    (c.pass.ensures es was)

pub returns-in_default : goal.returns-in_default
returns-in_default c = λ es at was.
    scopes_later es c.args.number c.args.event.now c.args.self.now c.args.self.now at
    (no_opening c.args.event.now (λ path is. c.in_default.not-Open path is)) refl refl refl was
