use Rattle.std.proofs.Common.{rules, ◌∙◌}
use Rattle.syntax_tree.proofs.Atoms.{neg_denied, neg_alone, neg_compared}
use Rattle.syntax_tree.proofs.tree.Neg.as_atom.Goals as goal

pub returns-then-self : goal.returns-then-self
returns-then-self c = neg_denied c.args.self.now (search rules)

pub returns-in-None : goal.returns-in-None
returns-in-None c = c.as_atom.ensures ∙ neg_alone c.args.self.now (search rules) (search rules)

pub returns-in-Some : goal.returns-in-Some
returns-in-Some c = neg_compared c.args.self.now (search rules) (search rules)
