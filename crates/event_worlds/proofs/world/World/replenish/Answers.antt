use Rattle.std.proofs.Common.{ap}
use Rattle.event_worlds.specs.declared.world.World.{World as rWorld}
use Rattle.event_worlds.proofs.InHand.{replenishes, replenishes_not}
use Rattle.event_worlds.proofs.world.World.replenish.Goals as goal

pub returns-then-not-is_short-clause-refused : goal.returns-then-not-is_short-clause-refused
returns-then-not-is_short-clause-refused c =
    replenishes_not c.args.self.now c.look_at.new.self c.args.path.now c.in_ok-look_at.field-0 c.in_ok-look_at.ensures.ready
    (ap (λ (r : rWorld). r.job) c.look_at.ensures.others) c.look_at.ensures.stays c.if-not-is_short.ensures.not

pub returns-clause-given : goal.returns-clause-given
returns-clause-given c =
    replenishes c.args.self.now c.look_at.new.self c.args.path.now c.in_ok-look_at.field-0 c.in_ok-look_at.ensures.ready
    (ap (λ (r : rWorld). r.job) c.look_at.ensures.others) c.look_at.ensures.stays c.issue_to.new.self c.issue_to.ensures.job
    c.issue_to.ensures.hands c.issue_to.ensures.told c.if-not-is_short.ensures.is (c.issue_to.ensures.issued c.if-not-is_short.ensures.is)
