use Rattle.std.proofs.Common.{arith, rules}
use Rattle.std.proofs.lemmas.Grind.{common_steps}
use Rattle.trace_text.proofs.read.plain_resume_in.Goals as goal

pub returns-clause-told : goal.returns-clause-told
returns-clause-told c = λ w p fits is.
    let by = c.in_ok-by.ensures.told w p fits is in
    first_of (search rules, grind (arith, common_steps))
