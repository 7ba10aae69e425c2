use Rattle.std.proofs.Common.{◌∙◌}
use Rattle.std.proofs.lemmas.Result.{IfOk-at_ok}
use Rattle.types.specs.Typed.{code_of, program_of}
use Rattle.parallel_relation.specs.Pairs.{pairs_left}
use Rattle.command_line.specs.declared.request.Command.TheVariants.{PairsByLine}
use Rattle.commands.proofs.Answering.{shown}
use Rattle.commands.proofs.Named.{pairs_by_line_answer, statements_found}
use Rattle.commands.proofs.telling.pairs_by_line.Goals as goal

pub returns : goal.returns
returns g c s held =
    let text = c.args.text.now in
    let typed = c.in_ok-typed.typed in
    let statements = c.in_ok-statements.statements in
    shown PairsByLine s held text _ _ c.answer.result c.as_str.result.now 0
    (pairs_by_line_answer text c.as_str.result.now (code_of typed) c.in_ok-pairs.pairs (pairs_left c.list.result) statements
    c.in_ok-typed.ensures.code (IfOk-at_ok _ c.in_ok-pairs.ensures.value c.pairs_of.ensures) c.list.ensures
    (statements_found text (program_of typed) _ statements c.program.ensures.program c.in_ok-typed.ensures.spelled
    (λ so. IfOk-at_ok _ c.in_ok-statements.ensures.value (c.of.ensures so)))
    (c.as_str.ensures.value ∙ IfOk-at_ok _ c.in_ok-lines.ensures.value c.lines_of_pairs.ensures))
    c.answer.ensures.text c.answer.ensures.status c.answer.ensures.failure
