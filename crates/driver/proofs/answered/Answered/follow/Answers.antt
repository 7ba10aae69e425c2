use Rattle.printing.proofs.Appending.{beginning_written}
use Rattle.driver.proofs.answered.Answered.follow.Goals as goal

pub returns-clause-told : goal.returns-clause-told
returns-clause-told g c = beginning_written _ _ _ _ (rw c.as_bytes.ensures.value at c.append.ensures)
