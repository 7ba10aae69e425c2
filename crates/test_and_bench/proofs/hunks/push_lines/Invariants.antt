use Rattle.std.proofs.Common.{◌≡◌, ◌++◌, drop}
use Rattle.test_and_bench.specs.Hunks.{signed}
use Rattle.test_and_bench.proofs.hunks.push_lines.Given as goal

-- what was added, and what is left
abbrev pub invariant-loop-line : goal.invariant-loop-line
invariant-loop-line l =
    l.text.items ++ signed (λ line. line.now) l.sign (drop l.line-index l.lines)
    ≡ l.fn.text.items ++ signed (λ line. line.now) l.sign l.lines
