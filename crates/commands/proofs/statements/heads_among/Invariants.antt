use Rattle.std.proofs.Common.{◌≡◌, ◌++◌, drop, map}
use Rattle.std.specs.String.{string_bytes}
use Rattle.commands.specs.Statements.{heads_on}
use Rattle.commands.proofs.statements.heads_among.Given as goal

-- the texts so far, and those on the lines that are left
abbrev pub invariant-loop-number : goal.invariant-loop-number
invariant-loop-number l =
    map string_bytes l.heads.items
    ++ heads_on (map (λ s. s.now) l.plain) l.number (map (λ s. s.now) (drop l.number l.listing))
    ≡ heads_on (map (λ s. s.now) l.plain) 0 (map (λ s. s.now) l.listing)
