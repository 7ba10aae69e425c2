use Rattle.std.proofs.Common.{◌+◌, List, length, ap, sym, subst, ◌∙◌, rules}
use Rattle.events.specs.declared.event.Event.{Event}
use Rattle.trace_text.specs.Lines.{event_object}
use Rattle.trace_text.specs.Reading.{IsEventRefusal}
use Rattle.trace_text.specs.declared.error.TraceError.TheVariants.{NotALine}
use Rattle.trace_text.proofs.Found.{cut_some, front_bad, front_pushed, long_some, no_event_first, no_line}
use Rattle.trace_text.proofs.read.read_events.Goals as goal

pub returns-in_default-2-clause-refused : goal.returns-in_default-2-clause-refused
returns-in_default-2-clause-refused c =
    let rest = c.lines.rest.now in
    let none = rw c.in_default-2.is at c.in_ok-event.ensures.other in
    subst (IsEventRefusal c.args.format c.args.text.now)
    (sym (c.no_line_behind.ensures ∙ ap (λ (es : List Event). NotALine (length es + 2)) c.deref.ensures.value))
    (front_bad c.args.text.now rest c.lines.events.items c.lines.invariant.1
    (cut_some rest c.in-Some.line.now c.in-Some.behind.now c.in-Some.ensures)
    (no_event_first rest c.in-Some.line.now c.in-Some.behind.now c.in-Some.ensures none))

pub lines-preserved : goal.lines-preserved
lines-preserved c =
    let read = rw c.in-Some-2.is at c.in_ok-event.ensures.read in (
      search rules,
      front_pushed c.args.text.now c.lines.rest.now c.in-Some.line.now c.in-Some.behind.now c.lines.events.items
          c.push.new.self.items c.in-Some-2.event c.lines.invariant.1 c.in-Some.ensures read.0 read.1
          c.in_ok-push.ensures.items,
    )

pub returns-then-not-is_empty-clause-refused : goal.returns-then-not-is_empty-clause-refused
returns-then-not-is_empty-clause-refused c =
    let rest = c.lines.rest.now in
    subst (IsEventRefusal c.args.format c.args.text.now)
    (sym (c.no_line_behind-then-not-is_empty.ensures
    ∙ ap (λ (es : List Event). NotALine (length es + 2)) c.deref-then-not-is_empty.ensures.value))
    (front_bad c.args.text.now rest c.lines.events.items c.lines.invariant.1 (long_some rest (search rules))
    (λ b. no_line rest b.behind (event_object b.event) b.parts c.in_default.ensures))
