use Rattle.std.proofs.Common.{None}
use Rattle.std.proofs.lemmas.Result.{on_ok_weaker, IfErr-weaker}
use Rattle.event_worlds.specs.Events.{Resume}
use Rattle.event_worlds.proofs.Gathers.{becomes_as, refuses_as}
use Rattle.event_worlds.proofs.Staying.{stays_self}
use Rattle.event_worlds.proofs.world.World.resume_telling.Goals as goal

pub returns-then-not-tells-clause-refused : goal.returns-then-not-tells-clause-refused
returns-then-not-tells-clause-refused c = (stays_self c.args.self.now, c.if-not-tells.ensures.wrong c.args.worker)

pub returns-clause-resumed : goal.returns-clause-resumed
returns-clause-resumed c =
    let path = c.args.path.now.turns.items in
    on_ok_weaker c.resume.result
    (becomes_as c.args.self.now c.resume.new.self (Resume c.args.worker path c.args.faults) (Resume c.args.worker path None)
    (c.if-not-tells.ensures.right c.args.worker)) c.resume.ensures.resumed

pub returns-clause-refused : goal.returns-clause-refused
returns-clause-refused c =
    let path = c.args.path.now.turns.items in
    IfErr-weaker c.resume.result _ _
    (refuses_as c.args.self.now c.resume.new.self (Resume c.args.worker path c.args.faults) (Resume c.args.worker path None)
    (c.if-not-tells.ensures.right c.args.worker)) c.resume.ensures.refused
