use Rattle.std.proofs.Common.{◌≡◌, ℕ, ◌+◌, ◌<◌, ◌≤◌, length, get_or}
use Rattle.std.specs.Prelude.{◌&&◌, if◌then◌else◌, max, nat_le, nat_lt}
use Rattle.trace_layout.proofs.busy.count_one.Given as goal

-- one more at each that was passed
abbrev pub invariant-loop-number : goal.invariant-loop-number
invariant-loop-number l = record {
  one : (n : ℕ) → n < length l.counts
      → get_or l.counts n 0 ≡ get_or l.fn.counts n 0 + (if nat_le l.first n && nat_lt n l.number then 1 else 0);
  within : l.number ≤ max l.first l.number-end;
}
