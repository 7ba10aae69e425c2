use Rattle.std.proofs.Common.{◌≡◌, ◌+◌, drop}
use Rattle.test_and_bench.specs.Hunks.{common}
use Rattle.test_and_bench.proofs.hunks.common.Given as goal

-- the lines so far are equal
abbrev pub invariant-loop-index : goal.invariant-loop-index
invariant-loop-index l =
    common (λ line. line.now) l.told l.wanted
    ≡ l.index + common (λ line. line.now) (drop l.index l.told) (drop l.index l.wanted)
