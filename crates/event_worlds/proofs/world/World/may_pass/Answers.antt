use Rattle.std.proofs.lemmas.Bool.{OnTrue_at, OnTrue_from}
use Rattle.event_worlds.proofs.Moves.{pass_legal, passed_world}
use Rattle.event_worlds.proofs.world.World.may_pass.Goals as goal

pub returns-clause-legal : goal.returns-clause-legal
returns-clause-legal c =
    OnTrue_from c.is_complete.result _
    (λ e w h.
    let s = OnTrue_at e c.is_complete.ensures.there in (
      passed_world c.args.self.now w h c.args.scope.now s.0 s.1 s.2,
      pass_legal c.args.self.now w h c.args.scope.now s.0 s.1 s.2,
    ))
