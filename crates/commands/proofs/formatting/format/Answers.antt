use Rattle.std.specs.String.{string_bytes}
use Rattle.std.proofs.lemmas.Result.{IfOk-at_ok}
use Rattle.std.proofs.lemmas.Str.{IsUtf8-string_bytes}
use Rattle.syntax_tree.specs.Tree.{program as tree_of}
use Rattle.command_line.specs.declared.request.Command.TheVariants.{Format}
use Rattle.commands.proofs.Answering.{format_answer, is_layout, shown}
use Rattle.commands.proofs.formatting.format.Goals as goal

pub returns : goal.returns
returns g c s held =
    let text = c.args.text.now in
    let told = c.as_str.result.now in
    let laid = string_bytes c.in_ok-laid.laid in
    let is = c.in_ok-laid.ensures.value in let out = c.laid_out.ensures in
    let program = tree_of c.in_ok-_program._program in let spelled = c.in_ok-_program.ensures.spelled in
    shown Format s held text _ _ c.answer.result told 0
    (format_answer text laid told program spelled c.as_str.ensures.value
    (is_layout text laid program spelled (IsUtf8-string_bytes c.in_ok-laid.laid) (IfOk-at_ok _ is out.laid)
    (IfOk-at_ok _ is out.kept) (IfOk-at_ok _ is out.tokens)))
    c.answer.ensures.text c.answer.ensures.status c.answer.ensures.failure
