use Rattle.std.proofs.Common.{refl}
use Rattle.event_worlds.proofs.InHand.{first_is}
use Rattle.event_worlds.proofs.task.WorldTask.wants.Goals as goal

pub returns-in-Some : goal.returns-in-Some
returns-in-Some c =
    let v = c.in-Some.ensures in
    let f = first_is c.args.self.now.stakes.items c.in-Some.stake.now v.item.3.0 v.item.1 in
    record {
      spawns = record { run = c.in-Spawns.field-0; start = c.in-Spawns.field-1; is = c.in-Spawns.is };
      inner = c.in-Some.stake.now;
      outer = f.0;
      stakes = f.1;
      one = c.if-stake-eq1.true;
      named = refl;
    }
