use Rattle.std.proofs.Common.{◌∙◌, sym}
use Rattle.std.proofs.lemmas.Bool.{OnFalse_from, OnTrue_from}
use Rattle.event_worlds.proofs.Judging.{step_illegal, step_legal, step_nowhere}
use Rattle.event_worlds.proofs.world.World.may_step.Goals as goal

pub returns-in-Some-clause-legal : goal.returns-in-Some-clause-legal
returns-in-Some-clause-legal c =
    OnTrue_from c.is_step.result _
    (λ e w h. step_legal c.args.self.now c.requires.job w h c.args.path.now c.in-Some.kind c.in-Some.ensures (sym c.is_step.ensures ∙ e))

pub returns-in-Some-clause-illegal : goal.returns-in-Some-clause-illegal
returns-in-Some-clause-illegal c =
    OnFalse_from c.is_step.result _
    (λ e w h. step_illegal c.args.self.now c.requires.job w h c.args.path.now c.in-Some.kind c.in-Some.ensures (sym c.is_step.ensures ∙ e))

pub returns-in-None-clause-illegal : goal.returns-in-None-clause-illegal
returns-in-None-clause-illegal c = λ w h. step_nowhere c.args.self.now c.requires.job w h c.args.path.now c.in-None.ensures
