use Rattle.effects.specs.Rounds.{needs_of}
use Rattle.event_worlds.proofs.GoingOn.{ends_are_own}
use Rattle.event_worlds.proofs.laws.ends_are_their_own.Goals as goal

pub returns : goal.returns
returns c p w0 least input b es w leads path t lives v hand s outer stakes =
    ends_are_own p (needs_of p) w0 least input b es w leads path t v s outer lives hand stakes
