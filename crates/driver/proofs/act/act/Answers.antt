use Rattle.std.proofs.Common.{inl, inr, refl}
use Rattle.options.proofs.Replied.{conflict_is_mistake}
use Rattle.command_words.specs.Orders.{AsText, AsObject, Times, TimesAsObject, Tests, order}
use Rattle.driver.proofs.Ordered.{ordered}
use Rattle.driver.proofs.Watched.{watched_as}
use Rattle.driver.proofs.act.act.Goals as goal

pub returns-in-Err-clause-asked : goal.returns-in-Err-clause-asked
returns-in-Err-clause-asked g c a asks once = absurd (c.in-Err.ensures.read (AsText a) asks once)

pub returns-in-Err-clause-as_object : goal.returns-in-Err-clause-as_object
returns-in-Err-clause-as_object g c x a asks once = absurd (c.in-Err.ensures.read (AsObject x a) asks once)

pub returns-in-Err-clause-timed : goal.returns-in-Err-clause-timed
returns-in-Err-clause-timed g c a asks once = absurd (c.in-Err.ensures.read (Times a) asks once)

pub returns-in-Err-clause-timed_as_object : goal.returns-in-Err-clause-timed_as_object
returns-in-Err-clause-timed_as_object g c a asks once = absurd (c.in-Err.ensures.read (TimesAsObject a) asks once)

pub returns-in-Err-clause-tested : goal.returns-in-Err-clause-tested
returns-in-Err-clause-tested g c a asks once = absurd (c.in-Err.ensures.read (Tests a) asks once)

pub returns-in-Ok-clause-asked : goal.returns-in-Ok-clause-asked
returns-in-Ok-clause-asked g c a asks once =
    ordered _ _ _ _ _ _ _ _ _ (order c.in-Ok.order) (AsText a) (c.in-Ok.ensures.read (AsText a) asks once) c.carry_out.ensures.acts

pub returns-in-Ok-clause-as_object : goal.returns-in-Ok-clause-as_object
returns-in-Ok-clause-as_object g c x a asks once =
    ordered _ _ _ _ _ _ _ _ _ (order c.in-Ok.order) (AsObject x a) (c.in-Ok.ensures.read (AsObject x a) asks once) c.carry_out.ensures.acts

pub returns-in-Ok-clause-timed : goal.returns-in-Ok-clause-timed
returns-in-Ok-clause-timed g c a asks once =
    ordered _ _ _ _ _ _ _ _ _ (order c.in-Ok.order) (Times a) (c.in-Ok.ensures.read (Times a) asks once) c.carry_out.ensures.acts

pub returns-in-Ok-clause-timed_as_object : goal.returns-in-Ok-clause-timed_as_object
returns-in-Ok-clause-timed_as_object g c a asks once =
    ordered _ _ _ _ _ _ _ _ _ (order c.in-Ok.order) (TimesAsObject a) (c.in-Ok.ensures.read (TimesAsObject a) asks once)
    c.carry_out.ensures.acts

pub returns-in-Ok-clause-tested : goal.returns-in-Ok-clause-tested
returns-in-Ok-clause-tested g c a asks once =
    ordered _ _ _ _ _ _ _ _ _ (order c.in-Ok.order) (Tests a) (c.in-Ok.ensures.read (Tests a) asks once) c.carry_out.ensures.acts

pub returns-in-Err-clause-twice : goal.returns-in-Err-clause-twice
returns-in-Err-clause-twice g c o orders twice =
    (refl, c.tell_command_line.ensures.mistake (conflict_is_mistake c.in-Err.reply (c.in-Err.ensures.twice o orders twice)))

pub returns-in-Ok-clause-twice : goal.returns-in-Ok-clause-twice
returns-in-Ok-clause-twice g c o orders twice = absurd (c.in-Ok.ensures.twice o orders twice)

pub returns-in-Err-clause-always : goal.returns-in-Err-clause-always
returns-in-Err-clause-always g c = inl (c.tell_command_line.ensures.always, refl)

pub returns-in-Ok-clause-always : goal.returns-in-Ok-clause-always
returns-in-Ok-clause-always g c = inr (order c.in-Ok.order, c.carry_out.ensures.acts)

pub returns-in-Err-clause-watched : goal.returns-in-Err-clause-watched
returns-in-Err-clause-watched g c o orders once = absurd (c.in-Err.ensures.read o orders once)

pub returns-in-Ok-clause-watched : goal.returns-in-Ok-clause-watched
returns-in-Ok-clause-watched g c o orders once =
    watched_as g.T.Watch.Told _ _ (order c.in-Ok.order) o (c.in-Ok.ensures.read o orders once) _ c.carry_out.ensures.watched
