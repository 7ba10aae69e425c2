use Rattle.std.proofs.Common.{◌∙◌, sym}
use Rattle.std.proofs.lemmas.Bool.{OnFalse_at, OnFalse_from, OnTrue_at, OnTrue_from}
use Rattle.event_worlds.proofs.Judging.{resume_legal}
use Rattle.event_worlds.proofs.world.World.may_resume.Goals as goal

pub returns-clause-legal : goal.returns-clause-legal
returns-clause-legal c =
    OnTrue_from c.may_leave.result _
    (λ e. resume_legal c.args.self.now c.args.path.now c.args.worker (OnTrue_at e c.may_leave.ensures.may)
    (sym c.contains.ensures ∙ c.if-contains.false))

pub returns-clause-illegal : goal.returns-clause-illegal
returns-clause-illegal c = OnFalse_from c.may_leave.result _ (λ e w h. OnFalse_at e c.may_leave.ensures.not w c.args.worker h)
