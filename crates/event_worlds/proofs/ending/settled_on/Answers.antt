use Rattle.event_worlds.proofs.ending.settled_on.Goals as goal

pub returns-clause-goes : goal.returns-clause-goes
returns-clause-goes c =
    record {
      settled = c.in-Ok.settled;
      comes = c.in-Ok.ensures.settled;
      owned = c.in-Ok.ensures.owned c.requires;
      stands = c.in_ok-run.ensures.stands;
      plan = c.in_ok-run.ensures.plan;
      nest = c.in_ok-run.ensures.nest;
    }
