use Rattle.printing.proofs.Appending.{beginning_written, begins_longer, then_begins}
use Rattle.driver.proofs.refusal.Refusal.tell.Goals as goal

pub returns-in-Ok-clause-told : goal.returns-in-Ok-clause-told
returns-in-Ok-clause-told g c =
    then_begins _ _ _ _ _ c.in-Ok.ensures (beginning_written _ _ _ _ (rw c.as_bytes.ensures.value at c.append.ensures))

pub returns-in-Err-clause-told : goal.returns-in-Err-clause-told
returns-in-Err-clause-told g c = begins_longer _ _ _ _ c.in-Err.ensures
