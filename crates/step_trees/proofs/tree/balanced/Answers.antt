use Rattle.std.proofs.lemmas.Result.{IfOk-weaker}
use Rattle.step_trees.proofs.AlikeTrees.{alike-is}
use Rattle.step_trees.proofs.tree.balanced.Goals as goal

pub returns-clause-tree : goal.returns-clause-tree
returns-clause-tree c = IfOk-weaker c.beside.result _ _ (λ t h. alike-is h) c.beside.ensures.tree
