use Rattle.syntax_tree.specs.Tree.{program as tree_of}
use Rattle.commands.proofs.statements.NamedStatements.of.Goals as goal

pub returns : goal.returns
returns c spelled =
    record { begun = c.in_ok-places.ensures (tree_of c.args.program.now) spelled; heads_are = c.in_ok-heads.ensures }
