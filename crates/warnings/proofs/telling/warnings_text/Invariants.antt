use Rattle.std.proofs.Common.{◌≡◌, []}
use Rattle.std.specs.String.{string_bytes}
use Rattle.warnings.proofs.telling.warnings_text.Given as goal

-- without a warning nothing is added
abbrev pub invariant-loop-warning : goal.invariant-loop-warning
invariant-loop-warning l = l.warning-items ≡ [] → string_bytes l.told ≡ []
