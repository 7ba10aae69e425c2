use Rattle.std.proofs.Common.{sym, ap}
use Rattle.std.specs.Prelude.{is_some}
use Rattle.event_worlds.specs.declared.world.World.{World as rWorld}
use Rattle.event_worlds.proofs.InHand.{steps}
use Rattle.event_worlds.proofs.world.World.step.Goals as goal

pub returns-in-Some : goal.returns-in-Some
returns-in-Some c =
    let new = c.step.new.self in
    let so = steps c.args.self.now c.look_at.new.self c.args.path.now c.in_ok-look_at.field-0 c.in_ok-look_at.ensures.ready
    (ap (λ (r : rWorld). r.job) c.look_at.ensures.others) c.look_at.ensures.stays
    c.in-Some.task.now new (sym c.in-Some.ensures.value) (record c.look_at.new.self { tasks = c.get_mut.follows.lender new })
    ((c.get_mut.follows.holds new).3 (ap is_some (sym c.in-Some.ensures.value))).0 c.step.result c.step.ensures.stepped
    c.step.ensures.same c.step.ensures.refused c.step.ensures.other in
    record { job = c.look_at.ensures.stays.job; stepped = so.0; refused = so.1 }
