use Rattle.std.proofs.Common.{◌≡◌, ◌++◌, drop, map}
use Rattle.std.specs.String.{string_bytes}
use Rattle.types.specs.Translation.{procedure}
use Rattle.parallel_relation.specs.Translation.{meeting}
use Rattle.commands.specs.MeetingLines.{meeting_lines}
use Rattle.commands.proofs.accesses.push_each.Given as goal

-- what was written, and the lines that are left
abbrev pub invariant-loop-meeting : goal.invariant-loop-meeting
invariant-loop-meeting l =
    string_bytes l.told ++ meeting_lines (procedure l.procedure) (map meeting (drop l.meeting-index l.meetings))
    ≡ string_bytes l.initial.told ++ meeting_lines (procedure l.procedure) (map meeting l.meetings)
