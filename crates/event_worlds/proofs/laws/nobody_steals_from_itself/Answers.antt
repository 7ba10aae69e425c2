use Rattle.effects.specs.Rounds.{needs_of}
use Rattle.event_worlds.specs.Replay.{does, hands_on}
use Rattle.event_worlds.proofs.Changes.{steals_from_others}
use Rattle.event_worlds.proofs.laws.nobody_steals_from_itself.Goals as goal

pub returns : goal.returns
returns c p w0 b worker path w =
    steals_from_others w0 (does p (needs_of p) b.steps w0) (hands_on p (needs_of p) b.steps w0) worker path w
