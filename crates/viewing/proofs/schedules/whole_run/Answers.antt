use Rattle.std.proofs.Common.{◌∙◌, ap, map, refl, sym}
use Rattle.types.specs.Translation.{input as lists_in}
use Rattle.types.specs.Typed.{code_of}
use Rattle.events.specs.Events.{event as event_of}
use Rattle.event_worlds.specs.World.{has_passed}
use Rattle.trace_text.specs.Headers.{TraceHeader}
use Rattle.viewing.specs.Views.{budget_in, schedule_header}
use Rattle.viewing.proofs.Scheduled.{led_under, too_long}
use Rattle.viewing.proofs.Viewing.{comes_same}
use Rattle.viewing.proofs.schedules.whole_run.Goals as goal

pub returns-then-passed : goal.returns-then-passed
returns-then-passed c =
    let replayed = c.in-Ok.ensures.legal in
    let events = c.in-Ok.walk.events.items in
    let world = replayed.world in
    record {
      world = world;
      legal = led_under (code_of c.args.accepted.now.typed) (lists_in c.args.input.now) c.header_of_run-header.result
          schedule_header c.header_of_run-header.ensures (map event_of events) world
          (sym (comes_same _ _ c.in-Some.ensures.1 events events refl) ∙ replayed.legal);
      passed = ap (λ id. has_passed id world) (sym c.scope_of_main-outermost.ensures)
          ∙ sym (c.passed.ensures world replayed.shows) ∙ c.if-passed.true;
    }

pub returns-else-passed : goal.returns-else-passed
returns-else-passed c =
    let replayed = c.in-Ok.ensures.legal in
    let events = c.in-Ok.walk.events.items in
    let world = replayed.world in
    let settings = c.header_of_run-header.ensures in
    too_long _ c.in-Ok.walk (replayed.job ∙ c.in-Some.ensures.1) schedule_header
    (ap (λ (t : TraceHeader). t.w0) settings) (ap budget_in settings) c.in-Ok.ensures.over world
    (sym (comes_same _ _ c.in-Some.ensures.1 events events refl) ∙ replayed.legal)
    (ap (λ id. has_passed id world) (sym c.scope_of_main-outermost.ensures)
    ∙ sym (c.passed.ensures world replayed.shows) ∙ c.if-passed.false)
