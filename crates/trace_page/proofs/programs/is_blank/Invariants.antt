use Rattle.std.proofs.Common.{◌≡◌, drop}
use Rattle.trace_page.specs.Programs.{is_blank}
use Rattle.trace_page.proofs.programs.is_blank.Given as goal

-- the numbers so far are 0
abbrev pub invariant-loop-number : goal.invariant-loop-number
invariant-loop-number l = is_blank (drop l.number-index l.numbers) ≡ is_blank l.numbers
