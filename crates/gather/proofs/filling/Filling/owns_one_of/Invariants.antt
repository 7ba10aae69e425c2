use Rattle.std.proofs.Common.{◌≡◌, ◌+◌}
use Rattle.task_run.specs.Places.{has_one}
use Rattle.gather.specs.Stages.{part}
use Rattle.gather.proofs.filling.Filling.owns_one_of.Given as goal

-- the result depends only on the rest
abbrev pub invariant-places : goal.invariant-places
invariant-places l =
    (has_one (part l.self).owned l.fn.window.array.number l.index l.left
    ≡ has_one (part l.self).owned l.fn.window.array.number l.fn.window.at l.fn.window.len)
    × (l.index + l.left ≡ l.fn.window.at + l.fn.window.len)

abbrev pub decreases-places : goal.decreases-places
decreases-places l = l.left
