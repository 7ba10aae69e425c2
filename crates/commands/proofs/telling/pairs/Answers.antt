use Rattle.std.proofs.lemmas.Result.{IfOk-at_ok}
use Rattle.types.specs.Typed.{code_of}
use Rattle.parallel_relation.specs.Pairs.{pairs_left}
use Rattle.command_line.specs.declared.request.Command.TheVariants.{Pairs}
use Rattle.commands.proofs.Answering.{pairs_answer, shown}
use Rattle.commands.proofs.telling.pairs.Goals as goal

pub returns : goal.returns
returns g c s held =
    shown Pairs s held c.args.text.now _ _ c.answer_pairs.result _ 0
    (pairs_answer c.args.text.now (code_of c.in_ok-typed.typed) c.in_ok-pairs.pairs (pairs_left c.list.result)
    c.in_ok-typed.ensures.code (IfOk-at_ok _ c.in_ok-pairs.ensures.value c.pairs_of.ensures) c.list.ensures)
    c.answer_pairs.ensures.text c.answer_pairs.ensures.status c.answer_pairs.ensures.failure
