use Rattle.std.proofs.Common.{◌∙◌, sym}
use Rattle.std.proofs.lemmas.Bool.{OnFalse_at, OnFalse_from, OnTrue_at, OnTrue_from}
use Rattle.event_worlds.proofs.Judging.{replenish_illegal, replenish_legal, replenish_nowhere, replenish_enough}
use Rattle.event_worlds.proofs.world.World.may_replenish.Goals as goal

pub returns-in_default-clause-illegal : goal.returns-in_default-clause-illegal
returns-in_default-clause-illegal c = λ w h. replenish_nowhere c.args.self.now c.requires.job w h c.args.path.now c.in_default.ensures

pub returns-then-not-is_spawn-clause-illegal : goal.returns-then-not-is_spawn-clause-illegal
returns-then-not-is_spawn-clause-illegal c = λ w h.
    replenish_illegal c.args.self.now c.requires.job w h c.args.path.now c.in-Some.kind c.in-Some.ensures
    (sym c.is_spawn.ensures ∙ c.if-not-is_spawn.true)

pub returns-clause-legal : goal.returns-clause-legal
returns-clause-legal c =
    OnTrue_from c.needs_more.result _
    (λ e w h. replenish_legal c.args.self.now c.requires.job w h c.args.path.now c.in-Some.kind c.in-Some.ensures
    (sym c.is_spawn.ensures ∙ c.if-not-is_spawn.false) (OnTrue_at e c.needs_more.ensures.needs))

pub returns-clause-illegal : goal.returns-clause-illegal
returns-clause-illegal c =
    OnFalse_from c.needs_more.result _
    (λ e w h. replenish_enough c.args.self.now c.requires.job w h c.args.path.now c.in-Some.kind c.in-Some.ensures (OnFalse_at e c.needs_more.ensures.not))
