use Rattle.std.proofs.Common.{List, ℕ, ap, ◌∙◌}
use Rattle.std.proofs.lemmas.Result.{IfOk-weaker}
use Rattle.json_answers.specs.Pieces.{object_of}
use Rattle.json_answers.specs.Statements.{list_of, members_with, share_json}
use Rattle.json_answers.proofs.statements.shares_value.Goals as goal

pub returns : goal.returns
returns c =
    let cost = c.args.cost.now in let s = c.args.statements.now in
    let shares =
    c.in_ok-shares.ensures
    ∙ ap (λ (work : List ℕ). list_of (share_json s work c.deref-2.result.now) s) c.deref.ensures.value
    ∙ ap (λ (span : List ℕ). list_of (share_json s cost.work.items span) s) c.deref-2.ensures.value in
    IfOk-weaker c.cost_value.result _ _ (λ v same. same
    ∙ ap (λ d. object_of (members_with cost.costed.cost d)) shares) c.cost_value.ensures
