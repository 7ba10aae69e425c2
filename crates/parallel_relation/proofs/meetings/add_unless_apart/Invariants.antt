use Rattle.std.proofs.Common.{◌≡◌, ◌++◌, map, drop}
use Rattle.effects.specs.Effects.{accesses}
use Rattle.effects.specs.Translation.{access}
use Rattle.parallel_relation.specs.Meetings.{met_by_turn}
use Rattle.parallel_relation.specs.Order.{meeting_of}
use Rattle.parallel_relation.specs.Translation.{meeting}
use Rattle.parallel_relation.proofs.meetings.add_unless_apart.Given as goal

-- with the remaining ones, all are there
abbrev pub invariant-loop-second : goal.invariant-loop-second
invariant-loop-second l =
    map meeting l.into.items
    ++ map meeting_of (met_by_turn accesses l.fn.piece.number (access l.fn.first) (map access (drop l.second-index l.seconds)))
    ≡ map meeting l.initial.into.items
    ++ map meeting_of (met_by_turn accesses l.fn.piece.number (access l.fn.first) (map access l.seconds))
