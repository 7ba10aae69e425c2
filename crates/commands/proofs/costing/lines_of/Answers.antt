use Rattle.std.proofs.Common.{string_bytes, subst, sym}
use Rattle.std.specs.Prelude.{IfOk}
use Rattle.types.specs.Typed.{code_of}
use Rattle.commands.specs.Answers.{HasCost}
use Rattle.commands.specs.declared.costing.Shares.{Shares}
use Rattle.commands.proofs.costing.lines_of.Goals as goal

pub returns-in-Untold : goal.returns-in-Untold
returns-in-Untold c spelled =
    let cost = c.args.cost.now in let p = code_of c.args.typed.now in
    subst (λ (x : Shares). IfOk c.cost_text.result (λ told. HasCost x c.args.text.now cost.costed.cost cost.work.items
    cost.span.items p (string_bytes told))) (sym c.in-Untold.is) c.cost_text.ensures

pub returns-in-ByLabel : goal.returns-in-ByLabel
returns-in-ByLabel c spelled =
    let cost = c.args.cost.now in let p = code_of c.args.typed.now in
    subst (λ (x : Shares). IfOk c.with_labels.result (λ told. HasCost x c.args.text.now cost.costed.cost cost.work.items
    cost.span.items p (string_bytes told))) (sym c.in-ByLabel.is) (c.with_labels.ensures spelled)

pub returns-in-ByProcedure : goal.returns-in-ByProcedure
returns-in-ByProcedure c spelled =
    let cost = c.args.cost.now in let p = code_of c.args.typed.now in
    subst (λ (x : Shares). IfOk c.with_procedures.result (λ told. HasCost x c.args.text.now cost.costed.cost
    cost.work.items cost.span.items p (string_bytes told))) (sym c.in-ByProcedure.is) c.with_procedures.ensures
