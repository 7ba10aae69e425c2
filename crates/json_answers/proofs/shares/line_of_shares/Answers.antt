use Rattle.std.proofs.lemmas.Result.{IfOk-weaker}
use Rattle.types.specs.Typed.{program_of}
use Rattle.commands.proofs.Named.{statements_found}
use Rattle.json_answers.proofs.shares.line_of_shares.Goals as goal

pub returns : goal.returns
returns c spelled =
    let s = c.in_ok-statements.statements in
    IfOk-weaker c.shares_object.result _ _ (λ told is. record {
      statements = s;
      are = statements_found c.args.text.now (program_of c.args.typed.now) _ s c.program.ensures.program spelled
          c.in_ok-statements.ensures;
      told_is = is;
    }) c.shares_object.ensures.text
