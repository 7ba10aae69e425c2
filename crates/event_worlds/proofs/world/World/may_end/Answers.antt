use Rattle.std.proofs.Common.{◌∙◌, ap, sym}
use Rattle.std.proofs.lemmas.Bool.{OnFalse_from, OnTrue_from}
use Rattle.event_worlds.specs.NextKinds.{ends_by}
use Rattle.event_worlds.proofs.Judging.{end_illegal, end_legal, end_nowhere, root_is}
use Rattle.event_worlds.proofs.world.World.may_end.Goals as goal

pub returns-in-Some-clause-legal : goal.returns-in-Some-clause-legal
returns-in-Some-clause-legal c =
    OnTrue_from c.ends.result _
    (λ e w h. end_legal c.args.self.now c.requires.job w h c.args.path.now c.in-Some.kind c.in-Some.ensures
    (ap (λ b. ends_by b c.in-Some.kind) (sym (c.is_empty.ensures ∙ root_is c.args.path.now)) ∙ sym c.ends.ensures ∙ e))

pub returns-in-Some-clause-illegal : goal.returns-in-Some-clause-illegal
returns-in-Some-clause-illegal c =
    OnFalse_from c.ends.result _
    (λ e w h. end_illegal c.args.self.now c.requires.job w h c.args.path.now c.in-Some.kind c.in-Some.ensures
    (ap (λ b. ends_by b c.in-Some.kind) (sym (c.is_empty.ensures ∙ root_is c.args.path.now)) ∙ sym c.ends.ensures ∙ e))

pub returns-in-None-clause-illegal : goal.returns-in-None-clause-illegal
returns-in-None-clause-illegal c = λ w h. end_nowhere c.args.self.now c.requires.job w h c.args.path.now c.in-None.ensures
