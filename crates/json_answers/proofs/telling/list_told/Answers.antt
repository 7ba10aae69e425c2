use Rattle.std.proofs.Common.{refl}
use Rattle.std.proofs.lemmas.Result.{IfOk-weaker}
use Rattle.syntax_tree.specs.Tree.{program as tree_of}
use Rattle.commands.proofs.Named.{has_statements}
use Rattle.json_answers.specs.Objects.{ObjectOfLabels}
use Rattle.json_answers.proofs.Written.{object_told}
use Rattle.json_answers.proofs.telling.list_told.Goals as goal

pub returns-in-Ok-clause-object : goal.returns-in-Ok-clause-object
returns-in-Ok-clause-object c s held =
    let text = c.args.text.now in
    let statements = c.in-Ok.statements in
    let program = tree_of c.in_ok-program.program in
    let spelled = c.in_ok-program.ensures.spelled in
    object_told (ObjectOfLabels text) c.told_or_no_memory.result c.statements_object.result
    c.told_or_no_memory.ensures.line c.told_or_no_memory.ensures.status
    (IfOk-weaker c.statements_object.result _ _ (λ x is. record {
      statements = statements;
      are = has_statements text program statements spelled (c.in-Ok.ensures spelled);
      told_is = is;
      status_is = refl;
    }) c.statements_object.ensures.text)
