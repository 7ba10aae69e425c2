use Rattle.std.proofs.Common.{◌≡◌, ◌++◌, map, drop}
use Rattle.effects.specs.Translation.{access}
use Rattle.parallel_relation.specs.Order.{meeting_of}
use Rattle.parallel_relation.specs.Translation.{meeting}
use Rattle.parallel_relation.proofs.meetings.add_each.Given as goal

-- with the remaining ones, all are there
abbrev pub invariant-loop-second : goal.invariant-loop-second
invariant-loop-second l =
    map meeting l.into.items
    ++ map meeting_of (map (λ y. (access l.fn.first, y)) (map access (drop l.second-index l.seconds)))
    ≡ map meeting l.initial.into.items ++ map meeting_of (map (λ y. (access l.fn.first, y)) (map access l.seconds))
