use Rattle.std.proofs.Common.{rules, ◌∙◌}
use Rattle.syntax_tree.proofs.Atoms.{expr_level}
use Rattle.syntax_tree.proofs.tree.Expr.as_atom.Goals as goal

pub returns-then-is_empty : goal.returns-then-is_empty
returns-then-is_empty c = c.as_atom.ensures ∙ (expr_level c.args.self.now).alone (search rules)

pub returns-else-is_empty : goal.returns-else-is_empty
returns-else-is_empty c = (expr_level c.args.self.now).beside (search rules)
