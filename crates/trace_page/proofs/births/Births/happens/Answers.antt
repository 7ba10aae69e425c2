use Rattle.std.proofs.Common.{ap, ◌∙◌}
use Rattle.std.specs.Prelude.{Some}
use Rattle.shared_lemmas.proofs.Results.{ok_then}
use Rattle.events.specs.declared.event.Event.{Event}
use Rattle.trace_page.proofs.Spawned.{births_later, no_spawn}
use Rattle.trace_page.proofs.births.Births.happens.Goals as goal

pub returns-in-Spawn : goal.returns-in-Spawn
returns-in-Spawn c =
    ok_then c.spawn.result c.spawn.ensures (λ spawned es at was.
    spawned es (at ∙ ap (λ (e : Event). Some e) c.in-Spawn.is) was)

pub returns-in_default : goal.returns-in_default
returns-in_default c = λ es at was.
    births_later es c.args.number c.args.event.now c.args.self.now at
    (no_spawn c.args.event.now (λ path is. c.in_default.not-Spawn path is)) was
