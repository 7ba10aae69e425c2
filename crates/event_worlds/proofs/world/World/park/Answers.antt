use Rattle.std.proofs.Common.{◌∙◌, sym}
use Rattle.event_worlds.specs.declared.world.World.{World as rWorld}
use Rattle.event_worlds.proofs.AtEnds.{park_done, park_refused, park_unseen, seen_by, stands_there}
use Rattle.event_worlds.proofs.world.World.park.Goals as goal

pub returns-in_err-worker-clause-refused : goal.returns-in_err-worker-clause-refused
returns-in_err-worker-clause-refused c =
    park_unseen c.requires c.look_at.ensures.stays c.from_residual.result c.args.path.now c.in_err-worker.field-0.0
    c.from_residual.ensures.1 c.in_err-worker.ensures.nowhere

pub returns-then-not-is_waiting-clause-refused : goal.returns-then-not-is_waiting-clause-refused
returns-then-not-is_waiting-clause-refused c =
    park_refused c.requires c.look_at.ensures.stays c.in_ok-worker.ensures.ready c.is_waiting.ensures c.if-not-is_waiting.true

pub return_weight-requires : goal.return_weight-requires
return_weight-requires c =
    let there = stands_there c.requires c.look_at.ensures.stays c.in_ok-worker.ensures.ready in
    record { stands = there.0; late = there.1 }

pub returns-clause-parked : goal.returns-clause-parked
returns-clause-parked c =
    let old = c.args.self.now in
    let path = c.args.path.now in
    let l = c.look_at.ensures in
    let seen = seen_by c.look_at.new.self path c.in_ok-worker.worker c.in_ok-worker.ensures.ready in
    let waits = sym (c.is_waiting.ensures seen.its seen.at) ∙ c.if-not-is_waiting.false in
    let a = (stands_there c.requires l.stays c.in_ok-worker.ensures.ready).0 in
    let last : rWorld = record c.set_down.new.self { hands = c.remove.new.self } in
    park_done old c.requires.job path c.look_at.new.self l.others l.stays c.in_ok-worker.worker seen waits a c.return_weight.new.self
    c.return_weight.ensures.others (c.return_weight.ensures.given a) c.set_down.new.self c.set_down.ensures.others
    c.set_down.ensures.parked last c.remove.ensures.updates.0
