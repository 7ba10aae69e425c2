use Rattle.std.proofs.Common.{◌≡◌, drop}
use Rattle.std.specs.Prelude.{max}
use Rattle.trace_numbers.specs.Counts.{deepest}
use Rattle.trace_numbers.proofs.tasks.deepest_nest.Given as goal

-- the deepest so far, and the deepest of the rest
abbrev pub invariant-loop-event : goal.invariant-loop-event
invariant-loop-event l = max l.most (deepest (drop l.event-index l.events)) ≡ deepest l.events
