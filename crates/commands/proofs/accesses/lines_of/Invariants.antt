use Rattle.std.specs.String.{string_bytes}
use Rattle.types.specs.Typed.{code_of}
use Rattle.commands.specs.MeetingLines.{HasLines}
use Rattle.commands.proofs.accesses.lines_of.Given as goal

-- the lines of the procedures so far are there
abbrev pub invariant-loop-number : goal.invariant-loop-number
invariant-loop-number l = HasLines (code_of l.typed) l.number (string_bytes l.told)
