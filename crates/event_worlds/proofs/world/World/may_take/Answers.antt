use Rattle.std.proofs.Common.{◌∙◌, sym}
use Rattle.std.proofs.lemmas.Bool.{OnTrue_from, not-true}
use Rattle.event_worlds.proofs.Judging.{take_legal}
use Rattle.event_worlds.proofs.world.World.may_take.Goals as goal

pub returns-clause-legal : goal.returns-clause-legal
returns-clause-legal c =
    let s = c.if-not-is_in_queue.ensures.there in
    OnTrue_from _ _ (λ e. take_legal c.args.self.now c.args.path.now c.args.worker s.0 s.1 s.2 (sym c.contains.ensures ∙ not-true c.contains.result e))
