use Rattle.std.proofs.Common.{◌≡◌, ◌≤◌, ◌+◌, drop, map}
use Rattle.task_run.specs.Translation.{listed}
use Rattle.event_worlds.specs.Gathered.{before_children}
use Rattle.event_worlds.proofs.scope.before_children.Given as goal

-- the number so far, and the faults that are still to come; the number is a u64
abbrev pub invariant-children : goal.invariant-children
invariant-children l =
    (l.all + before_children (map listed (drop l.child-index l.children)) ≡ l.number + before_children (map listed l.children))
    × (l.all ≤ 18446744073709551615)
