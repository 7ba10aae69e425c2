use Rattle.commands.proofs.Answering.{read_is_short}
use Rattle.commands.proofs.programs.program_of.Goals as goal

pub returns-in-Ok-clause-short : goal.returns-in-Ok-clause-short
returns-in-Ok-clause-short c = read_is_short c.parse.result c.in-Ok.program _ _ c.in-Ok.is c.parse.ensures.too_long
