use Rattle.std.proofs.Common.{◌∙◌}
use Rattle.std.proofs.lemmas.Result.{IfOk-weaker}
use Rattle.types.specs.Translation.{input}
use Rattle.types.specs.Typed.{code_of}
use Rattle.step_trees.specs.Standing.{standing_from}
use Rattle.step_trees.proofs.Standings.{from_start}
use Rattle.step_trees.proofs.standing.stand_after.Goals as goal

pub returns : goal.returns
returns c =
    let cs = c.args.choices.now in
    let whole = from_start (code_of c.args.typed.now) (input c.args.input.now) (c.in_ok-plan.plan, c.in_ok-plan.course)
    c.in_ok-plan.ensures (λ q t a. standing_from q 0 cs t a) in
    IfOk-weaker c.stands_behind.result _ _ (λ s h. h ∙ whole) c.stands_behind.ensures
