use Rattle.std.proofs.Common.{◌≡◌, ◌++◌, drop, map}
use Rattle.std.specs.String.{string_bytes}
use Rattle.viewing.specs.Views.{remark_at, remarked}
use Rattle.viewing.proofs.tables.remarked.Given as goal

-- what was written, and the lines that are left
abbrev pub invariant-loop-number : goal.invariant-loop-number
invariant-loop-number l =
    string_bytes l.told ++ remarked (remark_at l.remarks) l.number (map (λ s. s.now) (drop l.number l.lines))
    ≡ remarked (remark_at l.remarks) 0 (map (λ s. s.now) l.lines)
