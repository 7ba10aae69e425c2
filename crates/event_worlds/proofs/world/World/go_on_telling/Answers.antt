use Rattle.std.proofs.Common.{None}
use Rattle.std.proofs.lemmas.Result.{on_ok_weaker, IfErr-weaker}
use Rattle.event_worlds.specs.Events.{Resume}
use Rattle.event_worlds.proofs.Gathers.{becomes_as, illegal_as, legal_as}
use Rattle.event_worlds.proofs.world.World.go_on_telling.Goals as goal

pub returns-then-not-tells-clause-refused : goal.returns-then-not-tells-clause-refused
returns-then-not-tells-clause-refused c = λ is. c.if-not-tells.ensures.wrong c.args.worker

pub returns-clause-resumed : goal.returns-clause-resumed
returns-clause-resumed c =
    let path = c.args.path.now.turns.items in
    on_ok_weaker c.go_on_behind.result
    (becomes_as c.args.self.now c.go_on_behind.new.self (Resume c.args.worker path c.args.faults) (Resume c.args.worker path None)
    (c.if-not-tells.ensures.right c.args.worker)) c.go_on_behind.ensures.resumed

pub returns-clause-refused : goal.returns-clause-refused
returns-clause-refused c =
    let path = c.args.path.now.turns.items in
    IfErr-weaker c.go_on_behind.result _ _
    (λ x h is. illegal_as c.args.self.now c.go_on_behind.new.self (Resume c.args.worker path c.args.faults) (Resume c.args.worker path None)
    (c.if-not-tells.ensures.right c.args.worker) (h is)) c.go_on_behind.ensures.refused

pub returns-clause-memory : goal.returns-clause-memory
returns-clause-memory c =
    let path = c.args.path.now.turns.items in
    IfErr-weaker c.go_on_behind.result _ _
    (λ x h is. legal_as c.args.self.now c.go_on_behind.new.self (Resume c.args.worker path c.args.faults) (Resume c.args.worker path None)
    (c.if-not-tells.ensures.right c.args.worker) (h is)) c.go_on_behind.ensures.memory
