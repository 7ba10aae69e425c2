use Rattle.std.proofs.Common.{None}
use Rattle.std.proofs.lemmas.Bool.{OnFalse_at, OnFalse_from, OnTrue_at, OnTrue_from}
use Rattle.event_worlds.specs.Events.{Resume}
use Rattle.event_worlds.proofs.Gathers.{illegal_as, legal_as}
use Rattle.event_worlds.proofs.world.World.may_resume_telling.Goals as goal

pub returns-then-not-tells-clause-illegal : goal.returns-then-not-tells-clause-illegal
returns-then-not-tells-clause-illegal c = c.if-not-tells.ensures.wrong c.args.worker

pub returns-clause-legal : goal.returns-clause-legal
returns-clause-legal c =
    let path = c.args.path.now.turns.items in
    OnTrue_from c.may_resume.result _
    (λ e. legal_as c.args.self.now c.args.self.now (Resume c.args.worker path c.args.faults) (Resume c.args.worker path None)
    (c.if-not-tells.ensures.right c.args.worker) (OnTrue_at e c.may_resume.ensures.legal))

pub returns-clause-illegal : goal.returns-clause-illegal
returns-clause-illegal c =
    let path = c.args.path.now.turns.items in
    OnFalse_from c.may_resume.result _
    (λ e. illegal_as c.args.self.now c.args.self.now (Resume c.args.worker path c.args.faults) (Resume c.args.worker path None)
    (c.if-not-tells.ensures.right c.args.worker) (OnFalse_at e c.may_resume.ensures.illegal))
