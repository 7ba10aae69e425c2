use Rattle.std.proofs.Common.{◌≡◌, ◌++◌, drop, map}
use Rattle.std.specs.String.{string_bytes}
use Rattle.events.specs.Events.{event}
use Rattle.trace_text.specs.Table.{table_from, table_text}
use Rattle.trace_text.proofs.table.view.Given as goal

-- the text so far, and the lines to come
abbrev pub invariant-loop-number : goal.invariant-loop-number
invariant-loop-number l =
    string_bytes l.text ++ table_from l.number (map event (drop l.number l.events))
    ≡ table_text (map event l.events)
