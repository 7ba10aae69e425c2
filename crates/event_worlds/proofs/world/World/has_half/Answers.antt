use Rattle.std.proofs.Common.{sym}
use Rattle.std.proofs.lemmas.Bool.{OnTrue_from, leb-true}
use Rattle.event_worlds.specs.NextKinds.{HasHalf}
use Rattle.event_worlds.proofs.InHand.{first_is}
use Rattle.event_worlds.proofs.world.World.has_half.Goals as goal

pub returns-in-Some-front-clause-has : goal.returns-in-Some-front-clause-has
returns-in-Some-front-clause-has c =
    let v = c.in-Some-front.ensures in
    let f = first_is c.in-Some.task.now.stakes.items c.in-Some-front.stake.now v.item.3.0 v.item.1 in
    OnTrue_from _ (HasHalf c.args.self.now c.args.path.now)
    (λ e. record {
      task = c.in-Some.task.now;
      at = sym c.in-Some.ensures.value;
      inner = c.in-Some-front.stake.now;
      outer = f.0;
      stakes = f.1;
      two = leb-true 2 c.in-Some-front.stake.now.weight e;
    })
