use Rattle.std.proofs.Common.{◌≡◌, subst, sym}
use Rattle.std.specs.Bool.{OnFalse, OnTrue}
use Rattle.std.specs.Prelude.{Bool}
use Rattle.events.specs.declared.event.Event.{Event}
use Rattle.event_worlds.specs.Replaying.{event}
use Rattle.event_worlds.specs.Shown.{IsLegal}
use Rattle.event_worlds.specs.Walks.{IsIllegal}
use Rattle.event_worlds.specs.declared.world.World.{World}
use Rattle.event_worlds.proofs.world.World.is_legal.Goals as goal

-- of this event
legal_as : {e f : Event} (r : World) (b : Bool) → e ≡ f → OnTrue b (IsLegal r (event f)) → OnTrue b (IsLegal r (event e))
legal_as r b is h = subst (λ e. OnTrue b (IsLegal r (event e))) (sym is) h

illegal_as : {e f : Event} (r : World) (b : Bool) → e ≡ f → OnFalse b (IsIllegal r (event f)) → OnFalse b (IsIllegal r (event e))
illegal_as r b is h = subst (λ e. OnFalse b (IsIllegal r (event e))) (sym is) h

pub returns-in-Take-clause-legal : goal.returns-in-Take-clause-legal
returns-in-Take-clause-legal c = legal_as c.args.self.now c.may_take.result c.in-Take.is c.may_take.ensures.legal

pub returns-in-Take-clause-illegal : goal.returns-in-Take-clause-illegal
returns-in-Take-clause-illegal c = illegal_as c.args.self.now c.may_take.result c.in-Take.is c.may_take.ensures.illegal

pub returns-in-Steal-clause-legal : goal.returns-in-Steal-clause-legal
returns-in-Steal-clause-legal c = legal_as c.args.self.now c.may_steal.result c.in-Steal.is c.may_steal.ensures.legal

pub returns-in-Steal-clause-illegal : goal.returns-in-Steal-clause-illegal
returns-in-Steal-clause-illegal c = illegal_as c.args.self.now c.may_steal.result c.in-Steal.is c.may_steal.ensures.illegal

pub returns-in-Step-clause-legal : goal.returns-in-Step-clause-legal
returns-in-Step-clause-legal c = legal_as c.args.self.now c.may_step.result c.in-Step.is c.may_step.ensures.legal

pub returns-in-Step-clause-illegal : goal.returns-in-Step-clause-illegal
returns-in-Step-clause-illegal c = illegal_as c.args.self.now c.may_step.result c.in-Step.is c.may_step.ensures.illegal

pub returns-in-Replenish-clause-legal : goal.returns-in-Replenish-clause-legal
returns-in-Replenish-clause-legal c = legal_as c.args.self.now c.may_replenish.result c.in-Replenish.is c.may_replenish.ensures.legal

pub returns-in-Replenish-clause-illegal : goal.returns-in-Replenish-clause-illegal
returns-in-Replenish-clause-illegal c = illegal_as c.args.self.now c.may_replenish.result c.in-Replenish.is c.may_replenish.ensures.illegal

pub returns-in-Spawn-clause-legal : goal.returns-in-Spawn-clause-legal
returns-in-Spawn-clause-legal c = legal_as c.args.self.now c.may_spawn.result c.in-Spawn.is c.may_spawn.ensures.legal

pub returns-in-Spawn-clause-illegal : goal.returns-in-Spawn-clause-illegal
returns-in-Spawn-clause-illegal c = illegal_as c.args.self.now c.may_spawn.result c.in-Spawn.is c.may_spawn.ensures.illegal

pub returns-in-Open-clause-legal : goal.returns-in-Open-clause-legal
returns-in-Open-clause-legal c = legal_as c.args.self.now c.may_open.result c.in-Open.is c.may_open.ensures.legal

pub returns-in-Open-clause-illegal : goal.returns-in-Open-clause-illegal
returns-in-Open-clause-illegal c = illegal_as c.args.self.now c.may_open.result c.in-Open.is c.may_open.ensures.illegal

pub returns-in-Park-clause-legal : goal.returns-in-Park-clause-legal
returns-in-Park-clause-legal c = legal_as c.args.self.now c.may_park.result c.in-Park.is c.may_park.ensures.legal

pub returns-in-Park-clause-illegal : goal.returns-in-Park-clause-illegal
returns-in-Park-clause-illegal c = illegal_as c.args.self.now c.may_park.result c.in-Park.is c.may_park.ensures.illegal

pub returns-in-End-clause-legal : goal.returns-in-End-clause-legal
returns-in-End-clause-legal c = legal_as c.args.self.now c.may_end.result c.in-End.is c.may_end.ensures.legal

pub returns-in-End-clause-illegal : goal.returns-in-End-clause-illegal
returns-in-End-clause-illegal c = illegal_as c.args.self.now c.may_end.result c.in-End.is c.may_end.ensures.illegal

pub returns-in-Pass-clause-legal : goal.returns-in-Pass-clause-legal
returns-in-Pass-clause-legal c = legal_as c.args.self.now c.may_pass.result c.in-Pass.is c.may_pass.ensures.legal

pub returns-in-Pass-clause-illegal : goal.returns-in-Pass-clause-illegal
returns-in-Pass-clause-illegal c = illegal_as c.args.self.now c.may_pass.result c.in-Pass.is c.may_pass.ensures.illegal

pub returns-in-Resume-clause-legal : goal.returns-in-Resume-clause-legal
returns-in-Resume-clause-legal c = legal_as c.args.self.now c.may_resume_telling.result c.in-Resume.is c.may_resume_telling.ensures.legal

pub returns-in-Resume-clause-illegal : goal.returns-in-Resume-clause-illegal
returns-in-Resume-clause-illegal c = illegal_as c.args.self.now c.may_resume_telling.result c.in-Resume.is c.may_resume_telling.ensures.illegal
