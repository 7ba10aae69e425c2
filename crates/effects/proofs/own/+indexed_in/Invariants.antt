use Rattle.std.proofs.Common.{◌≡◌, ◌++◌, map, drop}
use Rattle.sections.specs.Translation.{section}
use Rattle.types.specs.Indexed.{indexed_truths}
use Rattle.types.specs.Rows.{truths}
use Rattle.effects.proofs.own.+indexed_in.Given as goal

-- with those of the remaining operands, all are found
abbrev pub invariant-add_indexed_in_all-loop-operand : goal.invariant-add_indexed_in_all-loop-operand
invariant-add_indexed_in_all-loop-operand l =
    map section l.found.items ++ indexed_truths (truths (drop l.operand-index l.operands))
    ≡ map section l.fn.found.items ++ indexed_truths (truths l.operands)
