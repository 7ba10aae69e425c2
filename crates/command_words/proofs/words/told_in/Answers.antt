use Rattle.std.proofs.Common.{ap, map}
use Rattle.std.specs.String.{string_bytes}
use Rattle.command_words.specs.Orders.{AsText}
use Rattle.command_words.proofs.Orders.{form_said, object_asked}
use Rattle.command_words.proofs.words.told_in.Goals as goal

pub returns-in_err-asked_in-in-None-clause-text : goal.returns-in_err-asked_in-in-None-clause-text
returns-in_err-asked_in-in-None-clause-text c a asks = absurd (c.in_err-asked_in-in-None.ensures a asks)

pub returns-in_ok-asked_in-in-None-clause-text : goal.returns-in_ok-asked_in-in-None-clause-text
returns-in_ok-asked_in-in-None-clause-text c a asks = ap AsText (c.in_ok-asked_in-in-None.ensures a asks)

pub returns-then-eq-clause-text : goal.returns-then-eq-clause-text
returns-then-eq-clause-text c a asks =
    absurd (form_said c.args.command.now (map string_bytes c.args.behind.now) a c.take.result.0 c.in-Some.form
    c.take.ensures.value c.in-Some.is asks)

pub returns-then-eq-clause-object : goal.returns-then-eq-clause-object
returns-then-eq-clause-object c x a p =
    c.object_in.ensures x a
    (object_asked c.args.command.now (map string_bytes c.args.behind.now) (map string_bytes c.take.result.1.now) x a
    c.take.ensures.behind p)
    p.told
