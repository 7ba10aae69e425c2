use Rattle.std.proofs.lemmas.Bool.{OnFalse_at, OnTrue_at}
use Rattle.std.proofs.lemmas.Result.{IfErr-weaker}
use Rattle.event_worlds.proofs.Staying.{stays_self}
use Rattle.event_worlds.proofs.world.World.event.Goals as goal

pub returns-then-not-is_legal-clause-refused : goal.returns-then-not-is_legal-clause-refused
returns-then-not-is_legal-clause-refused c = (stays_self c.args.self.now, OnFalse_at c.if-not-is_legal.true c.is_legal.ensures.illegal)

pub returns-clause-memory : goal.returns-clause-memory
returns-clause-memory c =
    IfErr-weaker c.change.result _ _ (λ x r is. OnTrue_at c.if-not-is_legal.false c.is_legal.ensures.legal) c.change.ensures.refused
