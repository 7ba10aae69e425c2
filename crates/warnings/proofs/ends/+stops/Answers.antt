use Rattle.std.proofs.Common.{ap, sym, ◌∙◌}
use Rattle.types.specs.Translation.{codes, code as plain_code}
use Rattle.types.proofs.Blocks.{code_Finish, code_If, code_Rescue, code_Split, code_While}
use Rattle.warnings.specs.Ends.{block_stops, stops}
use Rattle.warnings.proofs.Bools.{and_of, or_of}
use Rattle.warnings.proofs.ends.+stops.Goals as goal

pub stops-returns-in-If : goal.stops-returns-in-If
stops-returns-in-If t c =
    let is = ap plain_code c.in-If.is ∙ code_If c.in-If.guard c.in-If.body c.in-If.other in
    and_of _ _ _ _
    (or_of _ _ _ _ c.is_never.ensures (c.block_stops.ensures ∙ ap (λ b. block_stops (codes b)) c.deref.ensures.value))
    (or_of _ _ _ _ c.is_always.ensures
    (c.block_stops-in-If.ensures ∙ ap (λ b. block_stops (codes b)) c.deref-in-If.ensures.value))
    ∙ sym (ap stops is)

pub stops-returns-in-While : goal.stops-returns-in-While
stops-returns-in-While t c =
    c.is_always-in-While.ensures
    ∙ sym (ap stops (ap plain_code c.in-While.is ∙ code_While c.in-While.guard c.in-While.body))

pub stops-returns-in-Split : goal.stops-returns-in-Split
stops-returns-in-Split t c =
    c.block_stops-in-Split.ensures ∙ ap (λ b. block_stops (codes b)) c.deref-in-Split.ensures.value
    ∙ sym (ap stops (ap plain_code c.in-Split.is ∙ code_Split c.in-Split.sides c.in-Split.body))

pub stops-returns-in-Finish : goal.stops-returns-in-Finish
stops-returns-in-Finish t c =
    c.block_stops-in-Finish.ensures ∙ ap (λ b. block_stops (codes b)) c.deref-in-Finish.ensures.value
    ∙ sym (ap stops (ap plain_code c.in-Finish.is ∙ code_Finish c.in-Finish.body))

pub stops-returns-in-Rescue : goal.stops-returns-in-Rescue
stops-returns-in-Rescue t c =
    let is = ap plain_code c.in-Rescue.is ∙ code_Rescue c.in-Rescue.body c.in-Rescue.faults c.in-Rescue.handler in
    and_of _ _ _ _
    (c.block_stops-in-Rescue.ensures ∙ ap (λ b. block_stops (codes b)) c.deref-in-Rescue.ensures.value)
    (c.block_stops-in-Rescue-2.ensures ∙ ap (λ b. block_stops (codes b)) c.deref-in-Rescue-2.ensures.value)
    ∙ sym (ap stops is)
