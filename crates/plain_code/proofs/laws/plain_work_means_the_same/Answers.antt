use Rattle.plain_code.proofs.PlainMeaning.{plain_means}
use Rattle.plain_code.proofs.laws.plain_work_means_the_same.Goals as goal

pub returns : goal.returns
returns g c p r once same fresh nest w plain st = plain_means p r once same fresh nest w plain st
