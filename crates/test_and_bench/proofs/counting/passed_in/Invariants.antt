use Rattle.std.proofs.Common.{◌≡◌, ◌≤◌, ◌+◌, map}
use Rattle.test_and_bench.specs.Trials.{judged, passed_of}
use Rattle.test_and_bench.proofs.Tested.{left}
use Rattle.test_and_bench.proofs.counting.passed_in.Given as goal

-- those that are left, and those so far, of which there aren't too many
abbrev pub invariant-loop-one : goal.invariant-loop-one
invariant-loop-one l = record {
  number : passed_of (left l.tested l.one-index) + l.passed ≡ passed_of (map judged l.tested);
  few : l.passed ≤ l.one-index;
}
