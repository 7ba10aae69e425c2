use Rattle.std.proofs.Common.{map}
use Rattle.shared_lemmas.proofs.Results.{if_ok_then}
use Rattle.event_worlds.specs.Replaying.{event}
use Rattle.event_worlds.proofs.Walking.{idle}
use Rattle.event_worlds.proofs.walk.Walk.go_on.Goals as goal

pub returns-clause-idle : goal.returns-clause-idle
returns-clause-idle c =
    let events = c.in_ok-events.events in
    if_ok_then c.one_of.result c.one_of.ensures.none
    (λ b none e. idle c.args.self.now.world c.args.worker c.args.path.now.turns.items (map event events.items)
    c.in_ok-events.ensures (none e))
