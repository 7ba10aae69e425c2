use Rattle.std.proofs.Common.{◌∙◌, ap, sym}
use Rattle.std.proofs.lemmas.Bool.{OnFalse_from, OnTrue_from}
use Rattle.event_worlds.specs.NextKinds.{waits_by}
use Rattle.event_worlds.proofs.Judging.{park_illegal, park_legal, park_nowhere, root_is}
use Rattle.event_worlds.proofs.world.World.may_park.Goals as goal

pub returns-in-Some-clause-legal : goal.returns-in-Some-clause-legal
returns-in-Some-clause-legal c =
    OnTrue_from c.waits.result _
    (λ e w h. park_legal c.args.self.now c.requires.job w h c.args.path.now c.in-Some.kind c.in-Some.ensures
    (ap (λ b. waits_by b c.in-Some.kind) (sym (c.is_empty.ensures ∙ root_is c.args.path.now)) ∙ sym c.waits.ensures ∙ e))

pub returns-in-Some-clause-illegal : goal.returns-in-Some-clause-illegal
returns-in-Some-clause-illegal c =
    OnFalse_from c.waits.result _
    (λ e w h. park_illegal c.args.self.now c.requires.job w h c.args.path.now c.in-Some.kind c.in-Some.ensures
    (ap (λ b. waits_by b c.in-Some.kind) (sym (c.is_empty.ensures ∙ root_is c.args.path.now)) ∙ sym c.waits.ensures ∙ e))

pub returns-in-None-clause-illegal : goal.returns-in-None-clause-illegal
returns-in-None-clause-illegal c = λ w h. park_nowhere c.args.self.now c.requires.job w h c.args.path.now c.in-None.ensures
