use Rattle.std.proofs.Common.{map, length}
use Rattle.events.specs.Events.{event}
use Rattle.trace_text.proofs.Found.{Front}
use Rattle.trace_text.proofs.read.read_events.Given as goal
use denote.Shadow.{shadow}
use denote.Text.{Utf8}

-- the lines of the events so far precede what is left
abbrev pub invariant-lines : goal.invariant-lines
invariant-lines l = shadow (Utf8 l.rest) × Front l.fn.format l.fn.text l.rest (map event l.events.items)

abbrev pub decreases-lines : goal.decreases-lines
decreases-lines l = length l.rest
