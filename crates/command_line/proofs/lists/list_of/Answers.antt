use Rattle.command_line.proofs.Attached.{prefix_stripped}
use Rattle.command_line.proofs.lists.list_of.Goals as goal

pub returns-else-awaited : goal.returns-else-awaited
returns-else-awaited c =
    rw c.if-awaited.false (prefix_stripped c.args.word.now c.strip_prefix.result c.strip_prefix.ensures.cases)
