use Rattle.effects.specs.Rounds.{needs_of}
use Rattle.event_worlds.proofs.Outcomes.{refuses_the_first}
use Rattle.event_worlds.proofs.laws.replays_refuse_the_first.Goals as goal

pub returns : goal.returns
returns c p w0 input b es n = refuses_the_first p (needs_of p) w0 input b es n
