use Rattle.std.proofs.Common.{◌≡◌, ◌++◌, map, drop}
use Rattle.effects.specs.Effects.{accesses}
use Rattle.effects.specs.Translation.{access}
use Rattle.parallel_relation.specs.Meetings.{met_by_turns}
use Rattle.parallel_relation.specs.Order.{meeting_of}
use Rattle.parallel_relation.specs.Translation.{meeting}
use Rattle.parallel_relation.proofs.meetings.add_of_pieces.Given as goal

-- with the remaining ones, all are there
abbrev pub invariant-loop-first : goal.invariant-loop-first
invariant-loop-first l =
    map meeting l.into.items
    ++ map meeting_of (met_by_turns accesses l.fn.piece.number (map access (drop l.first-index l.first-items)) (map access l.turn.items))
    ≡ map meeting l.initial.into.items
    ++ map meeting_of (met_by_turns accesses l.fn.piece.number (map access l.first-items) (map access l.turn.items))
