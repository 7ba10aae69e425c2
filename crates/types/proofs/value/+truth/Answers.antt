use Rattle.std.proofs.Common.{ap, sym, ◌∙◌, Ok}
use Rattle.types.specs.Translation.{environment}
use Rattle.types.proofs.Chains.{value-Both, value-Either, all_end, any_ends}
use Rattle.types.proofs.value.+truth.Goals as goal

pub truth_value-returns-in-Both : goal.truth_value-returns-in-Both
truth_value-returns-in-Both g t c =
    c.all_hold.ensures
    ∙ value-Both (environment c.args.environment.now) (g.P.Places.numbers c.args.places.now) _
    c.in-Both.is c.deref-in-Both.ensures.value

pub truth_value-returns-in-Either : goal.truth_value-returns-in-Either
truth_value-returns-in-Either g t c =
    c.any_holds.ensures
    ∙ value-Either (environment c.args.environment.now) (g.P.Places.numbers c.args.places.now) _
    c.in-Either.is c.deref-in-Either.ensures.value

pub all_hold-returns-then-not-branch : goal.all_hold-returns-then-not-branch
all_hold-returns-then-not-branch g t c =
    let env = environment c.args.environment.now in let read = g.P.Places.numbers c.args.places.now in
    all_end env read c.args.operands.now c.loop-operand.operand-index c.operand-item.result c.loop-operand-test.true c.operand-item.is
    (ap Ok (sym c.if-not-branch.true) ∙ c.in_ok-truth_value.ensures)
    ∙ c.loop-operand.invariant

pub any_holds-returns-then-branch : goal.any_holds-returns-then-branch
any_holds-returns-then-branch g t c =
    let env = environment c.args.environment.now in let read = g.P.Places.numbers c.args.places.now in
    any_ends env read c.args.operands.now c.loop-operand.operand-index c.operand-item.result c.loop-operand-test.true c.operand-item.is
    (ap Ok (sym c.if-branch.true) ∙ c.in_ok-truth_value.ensures)
    ∙ c.loop-operand.invariant
