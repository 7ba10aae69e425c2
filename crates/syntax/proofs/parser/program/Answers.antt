use Rattle.std.proofs.Common.{subst}
use Rattle.syntax.specs.Refusals.{OpensTooMany}
use Rattle.syntax.proofs.Shallow.{opens_too_many}
use Rattle.syntax.proofs.parser.program.Goals as goal

pub returns-in-Some-clause-error : goal.returns-in-Some-clause-error
returns-in-Some-clause-error c =
    let found = c.in-Ok.tokens.items in
    let opens = subst (λ l. OpensTooMany l c.in-Some.at) c.deref.ensures.value c.in-Some.ensures.some in
    record {
      at = c.in-Some.at;
      fact = opens_too_many c.args.text.now found c.in-Some.at c.in-Ok.ensures.read c.in-Ok.ensures.placed opens;
      there = c.of.ensures;
    }
