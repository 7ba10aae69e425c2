use Rattle.std.proofs.Common.{List, ℕ, ap, ◌∙◌, map}
use Rattle.std.proofs.lemmas.Result.{IfOk-weaker}
use Rattle.viewing.specs.Views.{remark_at, remarked}
use Rattle.viewing.proofs.Remarked.{shown}
use Rattle.viewing.proofs.tables.with_remarks.Goals as goal

pub returns : goal.returns
returns c =
    IfOk-weaker c.remarked.result _ _
    (λ told is. is
    ∙ ap (λ (l : List (List ℕ)). remarked (remark_at c.args.remarks.now) 0 l)
    (ap (map shown) c.deref.ensures.value ∙ c.in_ok-lines.ensures)) c.remarked.ensures
