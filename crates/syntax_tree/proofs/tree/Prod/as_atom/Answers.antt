use Rattle.std.proofs.Common.{rules, ◌∙◌}
use Rattle.syntax_tree.proofs.Atoms.{prod_level}
use Rattle.syntax_tree.proofs.tree.Prod.as_atom.Goals as goal

pub returns-then-is_empty : goal.returns-then-is_empty
returns-then-is_empty c = c.as_atom.ensures ∙ (prod_level c.args.self.now).alone (search rules)

pub returns-else-is_empty : goal.returns-else-is_empty
returns-else-is_empty c = (prod_level c.args.self.now).beside (search rules)
