use Rattle.std.proofs.Common.{◌≡◌, ◌++◌, drop, map}
use Rattle.std.specs.List.{flat_map}
use Rattle.std.specs.String.{string_bytes}
use Rattle.events.specs.Events.{event}
use Rattle.trace_text.specs.Headers.{header_of}
use Rattle.trace_text.specs.Lines.{event_line, trace_text}
use Rattle.trace_text.proofs.write.write_lines.Given as goal

-- the text so far, and the lines to come
abbrev pub invariant-loop-event : goal.invariant-loop-event
invariant-loop-event l =
    string_bytes l.text ++ flat_map event_line (map event (drop l.event-index l.events))
    ≡ trace_text (header_of l.header) (map event l.events)
