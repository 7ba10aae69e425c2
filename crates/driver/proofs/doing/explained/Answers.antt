use Rattle.driver.proofs.Acting.{said_answer}
use Rattle.driver.proofs.doing.explained.Goals as goal

pub returns-in-Ok-clause-said : goal.returns-in-Ok-clause-said
returns-in-Ok-clause-said g c =
    said_answer c.args.source.now.more c.explained.result c.in-Ok.status c.explained.ensures.status c.explained.ensures.bare
