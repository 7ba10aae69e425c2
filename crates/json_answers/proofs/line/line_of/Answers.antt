use Rattle.std.proofs.Common.{rules, arith}
use Rattle.std.proofs.lemmas.Grind.{common_steps}
use Rattle.json_answers.specs.Pieces.{line}
use Rattle.json_answers.proofs.line.line_of.Goals as goal

pub returns-clause-text : goal.returns-clause-text
unfolding line
returns-clause-text c =
    let text = c.in_ok-text.ensures.text c.requires.no_float in
    let pushed = c.in_ok-push.ensures.bytes in
    first_of (search rules, grind (arith, common_steps))
