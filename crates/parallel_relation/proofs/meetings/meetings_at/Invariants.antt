use Rattle.std.proofs.Common.{◌≡◌, map}
use Rattle.types.specs.Typed.{code_of}
use Rattle.parallel_relation.specs.Translation.{meeting}
use Rattle.parallel_relation.proofs.MeetingLemmas.{those_below}
use Rattle.parallel_relation.proofs.meetings.meetings_at.Given as goal

-- those of the procedures so far are there
abbrev pub invariant-loop-number : goal.invariant-loop-number
invariant-loop-number l =
    map meeting l.found.items ≡ those_below l.lists.items (code_of l.typed) l.fn.label l.number
