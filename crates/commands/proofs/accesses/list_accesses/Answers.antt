use Rattle.std.proofs.lemmas.Result.{IfOk-at_ok}
use Rattle.types.specs.Typed.{code_of}
use Rattle.command_line.specs.declared.request.Command.TheVariants.{Meetings}
use Rattle.commands.proofs.Answering.{meetings_answer, shown}
use Rattle.commands.proofs.accesses.list_accesses.Goals as goal

pub returns : goal.returns
returns g c s held =
    shown Meetings s held c.args.text.now _ _ c.answer.result c.as_str.result.now 0
    (meetings_answer c.args.text.now c.as_str.result.now _ (code_of c.in_ok-typed.typed) c.in_ok-typed.ensures.code
    c.as_str.ensures.value (IfOk-at_ok _ c.in_ok-told.ensures.value c.lines_of.ensures))
    c.answer.ensures.text c.answer.ensures.status c.answer.ensures.failure
