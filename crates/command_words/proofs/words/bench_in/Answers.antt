use Rattle.std.proofs.Common.{map, codes}
use Rattle.std.specs.String.{string_bytes}
use Rattle.command_words.proofs.Orders.{form_said, form_unsaid, times_asked}
use Rattle.command_words.proofs.words.bench_in.Goals as goal

pub returns-in-None-clause-object : goal.returns-in-None-clause-object
returns-in-None-clause-object c a p =
    absurd (form_unsaid (map string_bytes c.args.behind.now) a c.take.result.0 c.take.ensures.value c.in-None.is p)

pub returns-then-eq-clause-text : goal.returns-then-eq-clause-text
returns-then-eq-clause-text c a asks is =
    absurd (form_said (codes "run") (map string_bytes c.args.behind.now) a c.take.result.0 c.in-Some.form
    c.take.ensures.value c.in-Some.is asks)

pub returns-then-eq-clause-object : goal.returns-then-eq-clause-object
returns-then-eq-clause-object c a p =
    c.times_as_object_in.ensures a
    (times_asked (map string_bytes c.args.behind.now) (map string_bytes c.take.result.1.now) a c.take.ensures.behind p)
    p.timed
