use Rattle.printing.proofs.Appending.{beginning_written}
use Rattle.driver.proofs.several.name_failure.Goals as goal

pub returns-in-Err : goal.returns-in-Err
returns-in-Err g c = rw c.in-Err.is (beginning_written _ _ _ _ c.emit_name.ensures)
