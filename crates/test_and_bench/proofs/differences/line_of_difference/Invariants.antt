use Rattle.std.proofs.Common.{◌≡◌, ◌+◌, ◌≤◌}
use Rattle.std.specs.Prelude.{drop}
use Rattle.test_and_bench.specs.Differences.{differing_line}
use Rattle.test_and_bench.proofs.differences.line_of_difference.Given as goal

-- what is left begins in this line
abbrev pub invariant-loop-index : goal.invariant-loop-index
invariant-loop-index l = record {
  left : differing_line 1 l.told l.wanted ≡ differing_line l.line (drop l.index l.told) (drop l.index l.wanted);
  small : l.line ≤ l.index + 1;
}
