use Rattle.files.proofs.Zeros.{are_zeros_fit}
use Rattle.files.proofs.input_file.zeros.Goals as goal

pub returns-in-Ok-clause-fits : goal.returns-in-Ok-clause-fits
returns-in-Ok-clause-fits c = are_zeros_fit _ _ c.in-Ok.ensures.zeros
