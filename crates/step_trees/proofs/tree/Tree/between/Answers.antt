use Rattle.std.proofs.Common.{ap, ◌∙◌}
use Rattle.std.proofs.lemmas.Result.{IfOk-weaker}
use Rattle.types.specs.Trees.{Beside}
use Rattle.step_trees.specs.Held.{tree_of}
use Rattle.step_trees.proofs.AlikeTrees.{alike-is, alike-parted}
use Rattle.step_trees.proofs.tree.Tree.between.Goals as goal

pub returns-in_ok-rights-in-Beside-clause-tree : goal.returns-in_ok-rights-in-Beside-clause-tree
returns-in_ok-rights-in-Beside-clause-tree c =
    IfOk-weaker c.beside.result _ _
    (λ t h. alike-parted h c.in_ok-lefts-in-Beside.ensures.tree c.in_ok-rights-in-Beside.ensures.tree (ap tree_of c.in-Beside.is))
    c.beside.ensures.tree

pub returns-in_ok-together-in_default : goal.returns-in_ok-together-in_default
returns-in_ok-together-in_default c =
    let right = tree_of c.args.right.value in
    record {
      tree =
          IfOk-weaker c.beside-in_default.result _ _
          (λ t h. alike-is (h ∙ ap (Beside (tree_of c.args.left.value)) (c.in_ok-together-in_default.ensures.tree
          ∙ ap (λ u. Beside (tree_of u) right) c.in_ok-tree-in_default.ensures.ok)))
          c.beside-in_default.ensures.tree;
      counted = c.beside-in_default.ensures.counted;
    }
