use Rattle.std.proofs.Common.{◌∙◌, sym}
use Rattle.std.proofs.lemmas.Result.{IfOk-weaker}
use Rattle.effects.proofs.Stability.{is_listed, has_listed}
use Rattle.witness.proofs.search.Sought.is_own.Goals as goal

pub returns : goal.returns
returns c =
    IfOk-weaker c.makes.result _ _
    (λ b h. (
      λ t. record { done = c.if-self.false; member = is_listed _ _ (sym h ∙ t) },
      λ own. h ∙ has_listed _ _ own.member,
    )) c.makes.ensures
