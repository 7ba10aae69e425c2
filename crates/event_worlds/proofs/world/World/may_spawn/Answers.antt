use Rattle.std.proofs.Common.{◌∙◌, sym}
use Rattle.std.proofs.lemmas.Bool.{OnFalse_at, OnFalse_from, OnTrue_at, OnTrue_from}
use Rattle.event_worlds.proofs.Judging.{spawn_illegal, spawn_legal, spawn_nowhere, spawn_light}
use Rattle.event_worlds.proofs.world.World.may_spawn.Goals as goal

pub returns-in_default-clause-illegal : goal.returns-in_default-clause-illegal
returns-in_default-clause-illegal c = λ w h. spawn_nowhere c.args.self.now c.requires.job w h c.args.path.now c.in_default.ensures

pub returns-then-not-is_spawn-clause-illegal : goal.returns-then-not-is_spawn-clause-illegal
returns-then-not-is_spawn-clause-illegal c = λ w h.
    spawn_illegal c.args.self.now c.requires.job w h c.args.path.now c.in-Some.kind c.in-Some.ensures
    (sym c.is_spawn.ensures ∙ c.if-not-is_spawn.true)

pub returns-clause-legal : goal.returns-clause-legal
returns-clause-legal c =
    OnTrue_from c.has_half.result _
    (λ e w h. spawn_legal c.args.self.now c.requires.job w h c.args.path.now c.in-Some.kind c.in-Some.ensures
    (sym c.is_spawn.ensures ∙ c.if-not-is_spawn.false) (OnTrue_at e c.has_half.ensures.has))

pub returns-clause-illegal : goal.returns-clause-illegal
returns-clause-illegal c =
    OnFalse_from c.has_half.result _
    (λ e w h. spawn_light c.args.self.now c.requires.job w h c.args.path.now c.in-Some.kind c.in-Some.ensures (OnFalse_at e c.has_half.ensures.not))
