use Rattle.std.proofs.Common.{◌≡◌, ◌++◌, drop, map}
use Rattle.test_and_bench.specs.Hunks.{shown_byte}
use Rattle.test_and_bench.proofs.hunks.push_shown.Given as goal

-- what was added, and what is left
abbrev pub invariant-loop-byte : goal.invariant-loop-byte
invariant-loop-byte l =
    l.text.items ++ map shown_byte (drop l.byte-index l.line) ≡ l.fn.text.items ++ map shown_byte l.line
