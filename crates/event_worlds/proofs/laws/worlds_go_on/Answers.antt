use Rattle.event_worlds.proofs.NeverStuck.{goes, next_there, settles_there}
use Rattle.event_worlds.proofs.laws.worlds_go_on.Goals as goal

pub returns-clause-goes : goal.returns-clause-goes
returns-clause-goes c p sound accepted w0 least input b fits es w leads = goes p sound accepted w0 least input b fits es w leads

pub returns-clause-next : goal.returns-clause-next
returns-clause-next c p sound accepted w0 least input b fits es w leads = next_there p sound accepted w0 least input b fits es w leads

pub returns-clause-settles : goal.returns-clause-settles
returns-clause-settles c p sound accepted w0 least input b fits es w leads = settles_there p sound accepted w0 least input b fits es w leads
