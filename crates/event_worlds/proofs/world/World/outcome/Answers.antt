use Rattle.event_worlds.proofs.Told.{told_is, told_not, told_there}
use Rattle.event_worlds.proofs.world.World.outcome.Goals as goal

pub returns-in-Some-clause-told : goal.returns-in-Some-clause-told
returns-in-Some-clause-told c = λ w h. told_there c.args.self.now c.requires.job w h c.in-Some.told c.in-Some.is

pub returns-in-None-clause-told : goal.returns-in-None-clause-told
returns-in-None-clause-told c = λ w h. told_not c.args.self.now c.requires.job w h c.in-None.is

pub returns-in-Some-clause-one_thread : goal.returns-in-Some-clause-one_thread
returns-in-Some-clause-one_thread c = told_is c.args.self.now c.requires.job c.requires.world c.requires.shows c.in-Some.told c.in-Some.is
