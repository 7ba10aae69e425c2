use Rattle.std.proofs.Common.{◌≡◌, drop, true, false}
use Rattle.types.specs.Translation.{environment}
use Rattle.types.specs.Rows.{truths}
use Rattle.types.specs.Value.{all, any}
use Rattle.types.proofs.value.+truth.Given as goal

-- those so far are true
abbrev pub invariant-all_hold-loop-operand : goal.invariant-all_hold-loop-operand
invariant-all_hold-loop-operand g l =
    let env = environment l.environment in let read = g.P.Places.numbers l.places in
    all env read (truths (drop l.operand-index l.operands)) true ≡ all env read (truths l.operands) true

-- none of those so far is true
abbrev pub invariant-any_holds-loop-operand : goal.invariant-any_holds-loop-operand
invariant-any_holds-loop-operand g l =
    let env = environment l.environment in let read = g.P.Places.numbers l.places in
    any env read (truths (drop l.operand-index l.operands)) false ≡ any env read (truths l.operands) false
