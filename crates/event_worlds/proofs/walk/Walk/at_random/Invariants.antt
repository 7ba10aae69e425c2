use Rattle.event_worlds.specs.Walks.{HasGoneOn}
use Rattle.event_worlds.proofs.walk.Walk.at_random.Given as goal

abbrev pub invariant-picks : goal.invariant-picks
invariant-picks l = HasGoneOn l.most l.fn.self l.self
