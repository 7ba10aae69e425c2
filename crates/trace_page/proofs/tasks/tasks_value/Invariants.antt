use Rattle.std.proofs.Common.{map}
use Rattle.events.specs.Events.{event}
use Rattle.trace_page.specs.Births.{birth}
use Rattle.trace_page.specs.Pieces.{natural}
use Rattle.trace_page.specs.Tasks.{number_of, task_of}
use Rattle.trace_page.proofs.Seen.{SeenFirst}
use Rattle.trace_page.proofs.tasks.tasks_value.Given as goal

-- the values so far represent the tasks of the first events
abbrev pub invariant-loop-event : goal.invariant-loop-event
invariant-loop-event l =
    SeenFirst (λ e. natural (number_of (map birth l.births) (task_of (event e)))) l.events l.event-index l.list.items
