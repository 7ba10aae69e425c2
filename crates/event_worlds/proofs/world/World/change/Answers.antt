use Rattle.std.proofs.Common.{◌≡◌, subst, sym}
use Rattle.std.specs.Prelude.{OnOk, Result}
use Rattle.events.specs.declared.event.Event.{Event}
use Rattle.event_worlds.specs.Replaying.{event}
use Rattle.event_worlds.specs.Shown.{Becomes}
use Rattle.event_worlds.specs.declared.world.World.{World}
use Rattle.event_worlds.proofs.world.World.change.Goals as goal

-- equal events have equal results
module _ {T E : Type 0} (r : Result T E) (old new : World) where
  as_it : {e other : Event} → e ≡ other → OnOk r (Becomes (event other) old new) → OnOk r (Becomes (event e) old new)
  as_it is h = subst (λ e. OnOk r (Becomes (event e) old new)) (sym is) h

pub returns-in-Take-clause-legal : goal.returns-in-Take-clause-legal
returns-in-Take-clause-legal c = as_it c.take.result c.args.self.now c.take.new.self c.in-Take.is c.take.ensures.taken

pub returns-in-Steal-clause-legal : goal.returns-in-Steal-clause-legal
returns-in-Steal-clause-legal c = as_it c.steal.result c.args.self.now c.steal.new.self c.in-Steal.is c.steal.ensures.stolen

pub returns-in-Step-clause-legal : goal.returns-in-Step-clause-legal
returns-in-Step-clause-legal c = as_it c.step.result c.args.self.now c.step.new.self c.in-Step.is c.step.ensures.stepped

pub returns-in-Replenish-clause-legal : goal.returns-in-Replenish-clause-legal
returns-in-Replenish-clause-legal c = as_it c.replenish.result c.args.self.now c.replenish.new.self c.in-Replenish.is c.replenish.ensures.given

pub returns-in-Spawn-clause-legal : goal.returns-in-Spawn-clause-legal
returns-in-Spawn-clause-legal c = as_it c.spawn.result c.args.self.now c.spawn.new.self c.in-Spawn.is c.spawn.ensures.spawned

pub returns-in-Open-clause-legal : goal.returns-in-Open-clause-legal
returns-in-Open-clause-legal c = as_it c.open.result c.args.self.now c.open.new.self c.in-Open.is c.open.ensures.opened

pub returns-in-Park-clause-legal : goal.returns-in-Park-clause-legal
returns-in-Park-clause-legal c = as_it c.park.result c.args.self.now c.park.new.self c.in-Park.is c.park.ensures.parked

pub returns-in-End-clause-legal : goal.returns-in-End-clause-legal
returns-in-End-clause-legal c = as_it c.end.result c.args.self.now c.end.new.self c.in-End.is c.end.ensures.ended

pub returns-in-Pass-clause-legal : goal.returns-in-Pass-clause-legal
returns-in-Pass-clause-legal c = as_it c.pass.result c.args.self.now c.pass.new.self c.in-Pass.is c.pass.ensures.passed

pub returns-in-Resume-clause-legal : goal.returns-in-Resume-clause-legal
returns-in-Resume-clause-legal c = as_it c.resume_telling.result c.args.self.now c.resume_telling.new.self c.in-Resume.is c.resume_telling.ensures.resumed
