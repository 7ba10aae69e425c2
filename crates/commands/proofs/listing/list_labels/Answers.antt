use Rattle.std.proofs.Common.{◌∙◌}
use Rattle.std.proofs.lemmas.Result.{IfOk-at_ok}
use Rattle.syntax_tree.specs.Tree.{program as tree_of}
use Rattle.command_line.specs.declared.request.Command.TheVariants.{Labels}
use Rattle.commands.proofs.Answering.{labels_answer, shown}
use Rattle.commands.proofs.listing.list_labels.Goals as goal

pub returns : goal.returns
returns g c s held =
    shown Labels s held c.args.text.now _ _ c.answer.result c.as_str.result.now 0
    (labels_answer c.args.text.now c.as_str.result.now (tree_of c.in_ok-program.program) c.in_ok-program.ensures.spelled
    (c.as_str.ensures.value ∙ IfOk-at_ok _ c.in_ok-listing.ensures.value c.listing.ensures))
    c.answer.ensures.text c.answer.ensures.status c.answer.ensures.failure
