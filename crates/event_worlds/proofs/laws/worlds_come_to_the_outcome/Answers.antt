use Rattle.event_worlds.proofs.NeverStuck.{outcome_told}
use Rattle.event_worlds.proofs.laws.worlds_come_to_the_outcome.Goals as goal

pub returns : goal.returns
returns c p sound accepted w0 least input b fits es w leads = outcome_told p sound accepted w0 least input b fits es w leads
