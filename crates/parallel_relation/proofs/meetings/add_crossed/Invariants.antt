use Rattle.std.proofs.Common.{◌≡◌, ◌++◌, map, drop}
use Rattle.effects.specs.Translation.{access}
use Rattle.parallel_relation.specs.Meetings.{crossed}
use Rattle.parallel_relation.specs.Order.{meeting_of}
use Rattle.parallel_relation.specs.Translation.{meeting}
use Rattle.parallel_relation.proofs.meetings.add_crossed.Given as goal

-- with the remaining ones, all are there
abbrev pub invariant-loop-first : goal.invariant-loop-first
invariant-loop-first l =
    map meeting l.into.items ++ map meeting_of (crossed (map access (drop l.first-index l.firsts)) (map access l.seconds))
    ≡ map meeting l.initial.into.items ++ map meeting_of (crossed (map access l.firsts) (map access l.seconds))
