use Rattle.std.proofs.Common.{◌∙◌, ℕ, List, ap, map, sym}
use Rattle.types.specs.Translation.{budget, input as lists_in}
use Rattle.types.specs.declared.budget.Budget.{Budget}
use Rattle.types.specs.Typed.{code_of}
use Rattle.events.specs.Events.{event as event_of}
use Rattle.events.specs.declared.event.Event.{Event}
use Rattle.event_worlds.specs.Worlds.{replayed}
use Rattle.trace_text.specs.Headers.{header_of as header_in}
use Rattle.trace_text.specs.Lines.{trace_text}
use Rattle.trace_text.specs.Spelled.{fits}
use Rattle.trace_text.specs.declared.format.Format.{Format}
use Rattle.viewing.proofs.Viewing.{legal_or_not}
use Rattle.driver.proofs.TracedRuns.{numbered_trace}
use Rattle.driver.proofs.tracing.lines_of.Goals as goal

pub write_lines-requires : goal.write_lines-requires
write_lines-requires c =
    ap (λ (es : List Event). fits c.in-Ok.header.format es) c.deref.ensures.value
    ∙ ap (λ (f : Format). fits f c.in-Ok.events.items) c.in-Ok.ensures.upgraded.format ∙ c.in-Ok.ensures.upgraded.fits_so

pub returns-in-Ok-write_lines-clause-trace : goal.returns-in-Ok-write_lines-clause-trace
returns-in-Ok-write_lines-clause-trace c =
    let given = c.args.given.now in
    let on = c.run_settings.ensures in
    let h = c.header_of-header in
    let up = c.in-Ok.ensures.upgraded in
    numbered_trace (code_of given.accepted.typed) (lists_in given.input) c.args.settings h.result c.in-Ok.header
    (map event_of c.args.events.now) (map event_of c.in-Ok.events.items) _
    up.format up.budget up.w0 up.workers (h.ensures.budget ∙ on.budget) (h.ensures.w0 ∙ on.w0) (h.ensures.workers ∙ on.workers)
    c.requires.events up.events
    (c.in-Ok-write_lines.ensures ∙ ap (λ (es : List Event). trace_text (header_in c.in-Ok.header) (map event_of es)) c.deref.ensures.value)

pub unreachable-requires : goal.unreachable-requires
unreachable-requires c =
    let p = code_of c.args.given.now.accepted.typed in
    let input = lists_in c.args.given.now.input in
    let s = c.args.settings in
    let es = map event_of c.args.events.now in
    let on = c.run_settings.ensures in
    let h = c.header_of-header in
    let refused = rw c.in-Err-IllegalAt.field-0-is at c.in-Err-IllegalAt.ensures.refused in
    legal_or_not (sym c.requires.events.legal
    ∙ sym (ap (λ (b : Budget). replayed p s.spread.w0 input (budget b) es) (h.ensures.budget ∙ on.budget))
    ∙ sym (ap (λ (n : ℕ). replayed p n input (budget h.result.budget) es) (h.ensures.w0 ∙ on.w0)) ∙ refused)
