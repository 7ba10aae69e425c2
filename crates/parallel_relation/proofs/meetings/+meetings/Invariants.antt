use Rattle.std.proofs.Common.{◌≡◌, ◌++◌, ◌+◌, ◌*◌, map, drop}
use Rattle.types.specs.Translation.{code, codes}
use Rattle.effects.specs.Effects.{accesses}
use Rattle.effects.proofs.Statements.{size, size_in}
use Rattle.parallel_relation.specs.Listing.{alls_of, pendings_of, is_asked}
use Rattle.parallel_relation.specs.Meetings.{added_in}
use Rattle.parallel_relation.specs.Order.{meeting_of}
use Rattle.parallel_relation.specs.Translation.{meeting}
use Rattle.parallel_relation.proofs.meetings.+meetings.Given as goal

-- with those of the remaining statements, all are there
abbrev pub invariant-add_meetings-loop-place : goal.invariant-add_meetings-loop-place
invariant-add_meetings-loop-place l =
    let added = added_in accesses (alls_of l.lists) (pendings_of l.lists) (is_asked l.fn.label) in
    map meeting l.into.items ++ map meeting_of (added (codes (drop l.place l.block)))
    ≡ map meeting l.initial.into.items ++ map meeting_of (added (codes l.block))

abbrev pub decreases-add_meetings : goal.decreases-add_meetings
decreases-add_meetings l = 2 * size (codes l.block.now)

abbrev pub decreases-add_meetings_inside : goal.decreases-add_meetings_inside
decreases-add_meetings_inside l = 2 * size_in (code l.kind.now) + 1
