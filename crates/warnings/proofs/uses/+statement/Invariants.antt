use Rattle.std.proofs.Common.{◌≡◌, drop}
use Rattle.types.specs.Translation.{codes}
use Rattle.warnings.specs.Uses.{codes_use}
use Rattle.warnings.proofs.uses.+statement.Given as goal

-- if one of the remaining statements uses it, one of all does
abbrev pub invariant-block_uses-loop-stmt : goal.invariant-block_uses-loop-stmt
invariant-block_uses-loop-stmt l = codes_use l.thing (codes (drop l.stmt-index l.block)) ≡ codes_use l.thing (codes l.block)
