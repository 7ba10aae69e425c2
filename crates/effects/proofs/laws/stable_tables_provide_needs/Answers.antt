use Rattle.effects.proofs.NeedsOfAsyncs.{provides}
use Rattle.effects.proofs.laws.stable_tables_provide_needs.Goals as goal

pub returns : goal.returns
returns c = provides
