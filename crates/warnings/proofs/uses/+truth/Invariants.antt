use Rattle.std.proofs.Common.{◌≡◌, drop}
use Rattle.types.specs.Rows.{truths}
use Rattle.warnings.specs.Uses.{truths_use}
use Rattle.warnings.proofs.uses.+truth.Given as goal

-- if one of the remaining operands uses it, one of all does
abbrev pub invariant-conditions_use-loop-operand : goal.invariant-conditions_use-loop-operand
invariant-conditions_use-loop-operand l =
    truths_use l.thing (truths (drop l.operand-index l.operands)) ≡ truths_use l.thing (truths l.operands)
