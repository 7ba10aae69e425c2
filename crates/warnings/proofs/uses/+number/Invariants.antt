use Rattle.std.proofs.Common.{◌≡◌, drop}
use Rattle.types.specs.Rows.{links}
use Rattle.warnings.specs.Uses.{links_use}
use Rattle.warnings.proofs.uses.+number.Given as goal

-- if one of the remaining operands uses it, one of all does
abbrev pub invariant-rest_uses-loop-link : goal.invariant-rest_uses-loop-link
invariant-rest_uses-loop-link l = links_use l.thing (links (drop l.link-index l.rest)) ≡ links_use l.thing (links l.rest)
