use Rattle.std.proofs.Common.{◌∙◌}
use Rattle.std.proofs.lemmas.Result.{IfOk-weaker}
use Rattle.types.specs.Translation.{input}
use Rattle.types.specs.Typed.{code_of}
use Rattle.step_trees.specs.Drawing.{drawn}
use Rattle.step_trees.proofs.Standings.{from_start}
use Rattle.step_trees.proofs.standing.draw.Goals as goal

pub returns : goal.returns
returns c =
    let whole = from_start (code_of c.args.typed.now) (input c.args.input.now) (c.in_ok-plan.plan, c.in_ok-plan.course)
    c.in_ok-plan.ensures (λ q t a. drawn q 1000000 c.args.seed t a) in
    IfOk-weaker c.draw_from.result _ _ (λ s h. h ∙ whole) c.draw_from.ensures
