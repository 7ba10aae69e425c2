use Rattle.std.proofs.Common.{◌≡◌, ◌++◌, drop, map}
use Rattle.std.specs.String.{string_bytes}
use Rattle.types.specs.Translation.{procedure}
use Rattle.cost.specs.Text.{procedure_lines}
use Rattle.cost.proofs.text.procedure_lines.Given as goal

-- what was written, and the lines that are left
abbrev pub invariant-loop-procedure : goal.invariant-loop-procedure
invariant-loop-procedure l =
    string_bytes l.text ++ procedure_lines l.work l.span (map procedure (drop l.procedure-index l.procedures))
    ≡ procedure_lines l.work l.span (map procedure l.procedures)
