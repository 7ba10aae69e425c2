use Rattle.std.proofs.Common.{ap, sym, ◌∙◌}
use Rattle.types.specs.Translation.{codes, code as plain_code}
use Rattle.types.proofs.Blocks.{code_If, code_Parts, code_Rescue, code_Split, code_While}
use Rattle.warnings.specs.Ends.{block_may_leave, may_leave}
use Rattle.warnings.proofs.Bools.{or_of}
use Rattle.warnings.proofs.ends.+leaves.Goals as goal

pub may_leave-returns-in-If : goal.may_leave-returns-in-If
may_leave-returns-in-If t c =
    or_of _ _ _ _ (c.block_may_leave.ensures ∙ ap (λ b. block_may_leave (codes b)) c.deref.ensures.value)
    (c.block_may_leave-in-If.ensures ∙ ap (λ b. block_may_leave (codes b)) c.deref-in-If.ensures.value)
    ∙ sym (ap may_leave (ap plain_code c.in-If.is ∙ code_If c.in-If.guard c.in-If.body c.in-If.other))

pub may_leave-returns-in-While : goal.may_leave-returns-in-While
may_leave-returns-in-While t c =
    c.block_may_leave-in-While.ensures ∙ ap (λ b. block_may_leave (codes b)) c.deref-in-While.ensures.value
    ∙ sym (ap may_leave (ap plain_code c.in-While.is ∙ code_While c.in-While.guard c.in-While.body))

pub may_leave-returns-in-Split : goal.may_leave-returns-in-Split
may_leave-returns-in-Split t c =
    c.block_may_leave-in-Split.ensures ∙ ap (λ b. block_may_leave (codes b)) c.deref-in-Split.ensures.value
    ∙ sym (ap may_leave (ap plain_code c.in-Split.is ∙ code_Split c.in-Split.sides c.in-Split.body))

pub may_leave-returns-in-Parts : goal.may_leave-returns-in-Parts
may_leave-returns-in-Parts t c =
    c.block_may_leave-in-Parts.ensures ∙ ap (λ b. block_may_leave (codes b)) c.deref-in-Parts.ensures.value
    ∙ sym (ap may_leave (ap plain_code c.in-Parts.is ∙ code_Parts c.in-Parts.pieces c.in-Parts.body))

pub may_leave-returns-in-Rescue : goal.may_leave-returns-in-Rescue
may_leave-returns-in-Rescue t c =
    let is = ap plain_code c.in-Rescue.is ∙ code_Rescue c.in-Rescue.body c.in-Rescue.faults c.in-Rescue.handler in
    c.block_may_leave-in-Rescue.ensures ∙ ap (λ b. block_may_leave (codes b)) c.deref-in-Rescue.ensures.value
    ∙ sym (ap may_leave is)
