use Rattle.std.proofs.Common.{◌≡◌, ◌++◌, drop, map, pos}
use Rattle.files.proofs.bytes_input.numbers.Given as goal

-- the numbers so far, and those of the other bytes
abbrev pub invariant-loop-byte : goal.invariant-loop-byte
invariant-loop-byte l = l.numbers.items ++ map pos (drop l.byte-index l.bytes) ≡ map pos l.bytes
