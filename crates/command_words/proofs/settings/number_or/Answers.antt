use Rattle.command_words.proofs.Reading.{parsed}
use Rattle.command_words.proofs.settings.number_or.Goals as goal

pub returns-in-Some : goal.returns-in-Some
returns-in-Some c n small is =
    parsed n c.args.usual c.in-Some.text.now c.from_str_radix.result c.ok.result small (rw c.in-Some.is at is) c.from_str_radix.ensures.value
    c.ok.ensures.value
