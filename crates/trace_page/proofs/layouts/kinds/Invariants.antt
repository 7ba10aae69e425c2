use Rattle.std.proofs.Common.{◌≡◌, ◌++◌, drop, map}
use Rattle.std.specs.String.{string_bytes}
use Rattle.events.specs.Events.{event}
use Rattle.trace_page.specs.Events.{kinds_text}
use Rattle.trace_page.proofs.layouts.kinds.Given as goal

-- the letters so far, and those to come
abbrev pub invariant-loop-event : goal.invariant-loop-event
invariant-loop-event l =
    string_bytes l.text ++ kinds_text (map event (drop l.event-index l.events)) ≡ kinds_text (map event l.events)
