use Rattle.shared_lemmas.proofs.Lists.{same_elements}
use Rattle.event_worlds.proofs.InHand.{first_is}
use Rattle.event_worlds.proofs.task.WorldTask.share.Goals as goal

pub returns-clause-share : goal.returns-clause-share
returns-clause-share c =
    let v = c.in-Some.ensures in
    let f = first_is c.args.self.now.stakes.items c.in-Some.stake.now v.item.3.0 v.item.1 in
    record {
      spawns = record { run = c.in-Spawns.field-0; start = c.in-Spawns.start; is = c.in-Spawns.is };
      inner = c.in-Some.stake.now;
      outer = f.0;
      are = f.1;
      two = c.if-stake-lt2.false;
      named = same_elements c.in-Spawns.start.path.turns.items c.in_ok-path.path.turns.items c.in_ok-path.ensures.cases.0;
      given = c.in_ok-stakes.ensures;
    }
