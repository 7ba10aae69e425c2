use Rattle.std.proofs.Common.{◌≡◌, ◌++◌, map}
use Rattle.std.specs.List.{flat_map}
use Rattle.std.specs.String.{string_bytes}
use Rattle.test_and_bench.specs.Trials.{judged}
use Rattle.test_and_bench.proofs.Tested.{left}
use Rattle.test_and_bench.proofs.testing.push_lines.Given as goal

-- the lines so far, and those that are left
abbrev pub invariant-loop-one : goal.invariant-loop-one
invariant-loop-one l =
    string_bytes l.text ++ flat_map (λ j. j.lines) (left l.tested l.one-index)
    ≡ string_bytes l.fn.text ++ flat_map (λ j. j.lines) (map judged l.tested)
