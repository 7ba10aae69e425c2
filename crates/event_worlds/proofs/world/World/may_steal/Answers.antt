use Rattle.std.proofs.Common.{◌∙◌, sym}
use Rattle.std.proofs.lemmas.Bool.{OnTrue_at, OnTrue_from, eqb-false}
use Rattle.event_worlds.proofs.Judging.{steal_legal}
use Rattle.event_worlds.proofs.world.World.may_steal.Goals as goal

pub returns-clause-legal : goal.returns-clause-legal
returns-clause-legal c =
    OnTrue_from c.is_in_queue.result _
    (λ e.
    let s = OnTrue_at e c.is_in_queue.ensures.there in
    steal_legal c.args.self.now c.args.path.now c.args.from s.0 s.1 s.2 c.args.worker
    (eqb-false c.args.from c.args.worker (sym c.eq.ensures ∙ c.if-eq.false)))
