use Rattle.std.proofs.Common.{◌∙◌, List, ap, map, sym}
use Rattle.std.proofs.lemmas.Result.{IfOk-at_ok}
use Rattle.types.specs.Translation.{budget, input as lists_in}
use Rattle.types.specs.Typed.{code_of}
use Rattle.events.specs.Events.{event}
use Rattle.events.specs.declared.event.Event.{Event}
use Rattle.event_worlds.specs.Numbering.{numbered}
use Rattle.trace_text.specs.Headers.{TraceHeader, header_of}
use Rattle.trace_text.specs.Lines.{trace_text}
use Rattle.trace_text.specs.Spelled.{fits}
use Rattle.trace_text.specs.declared.format.Format.{Format}
use Rattle.trace_text.specs.declared.format.Format.TheVariants.{Two}
use Rattle.viewing.proofs.Viewing.{legal_or_not, upgraded_header}
use Rattle.viewing.proofs.upgrading.lines_of.Goals as goal

pub write_lines-requires : goal.write_lines-requires
write_lines-requires c =
    ap (λ (es : List Event). fits c.in-Ok.header.format es) c.deref-in-Ok.ensures.value
    ∙ ap (λ (f : Format). fits f c.in-Ok.events.items) c.in-Ok.ensures.upgraded.format ∙ c.in-Ok.ensures.upgraded.fits_so

pub returns-in_ok-text-in-Ok-clause-lines : goal.returns-in_ok-text-in-Ok-clause-lines
returns-in_ok-text-in-Ok-clause-lines c =
    let given = c.args.judged.now.given in
    let h = c.args.judged.now.trace.header in
    let up = c.in-Ok.ensures.upgraded in
    IfOk-at_ok _ c.in_ok-text-in-Ok.ensures.value c.write_lines.ensures
    ∙ ap (λ (es : List Event). trace_text (header_of c.in-Ok.header) (map event es)) c.deref-in-Ok.ensures.value
    ∙ ap (λ (t : TraceHeader). trace_text t (map event c.in-Ok.events.items))
    (upgraded_header h c.in-Ok.header up.format up.budget up.w0 up.workers)
    ∙ ap (trace_text (record (header_of h) { format = Two }))
    (up.events
    ∙ ap (λ (es : List Event). numbered (code_of given.accepted.typed) h.w0 (lists_in given.input) (budget h.budget) (map event es))
    c.deref.ensures.value)

pub unreachable-requires : goal.unreachable-requires
unreachable-requires c =
    let refused = rw (c.in-Err-IllegalAt.field-0-is, c.deref.ensures.value) at c.in-Err-IllegalAt.ensures.refused in
    legal_or_not (sym c.requires.legal.legal ∙ refused)
