use Rattle.std.proofs.Common.{◌≡◌, ◌+◌, ◌≤◌, drop}
use Rattle.trace_numbers.specs.Counts.{most_alive, most_alive_from}
use Rattle.trace_numbers.proofs.tasks.most_tasks.Given as goal

-- no more tasks are live than have started, and what is left given those that are live
abbrev pub invariant-loop-event : goal.invariant-loop-event
invariant-loop-event l = record {
  few : l.now ≤ l.event-index + 1;
  same : most_alive_from l.now l.most (drop l.event-index l.events) ≡ most_alive l.events;
}
