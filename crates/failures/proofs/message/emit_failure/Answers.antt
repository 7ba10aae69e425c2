use Rattle.failures.proofs.message.emit_failure.Goals as goal

pub returns-in-CannotRead : goal.returns-in-CannotRead
returns-in-CannotRead g c = rw c.in-CannotRead.is (rw c.as_str.ensures.value at c.emit_file.ensures)
