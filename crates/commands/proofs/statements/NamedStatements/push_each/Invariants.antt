use Rattle.std.proofs.Common.{◌≡◌, ◌++◌, drop, map}
use Rattle.std.specs.String.{string_bytes}
use Rattle.commands.specs.Statements.{lines_around}
use Rattle.commands.proofs.statements.NamedStatements.push_each.Given as goal

-- what was written, and the lines that are left
abbrev pub invariant-loop-number : goal.invariant-loop-number
invariant-loop-number l =
    string_bytes l.told ++ lines_around l.self l.number (map (λ s. s.now) (drop l.number l.lines))
    ≡ string_bytes l.initial.told ++ lines_around l.self 0 (map (λ s. s.now) l.lines)
