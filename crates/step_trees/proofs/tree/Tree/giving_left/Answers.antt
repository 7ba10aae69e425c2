use Rattle.std.proofs.Common.{sym, ap, ◌∙◌, subst}
use Rattle.std.proofs.lemmas.Result.{IfOk-weaker}
use Rattle.types.specs.Trees.{Beside}
use Rattle.step_trees.specs.Alike.{AreAlike}
use Rattle.step_trees.specs.Held.{tree_of}
use Rattle.step_trees.proofs.AlikeTrees.{alike-is}
use Rattle.step_trees.proofs.tree.Tree.giving_left.Goals as goal

pub returns-in_ok-together-in-Beside-clause-tree : goal.returns-in_ok-together-in-Beside-clause-tree
returns-in_ok-together-in-Beside-clause-tree c =
    let s = tree_of c.args.smaller.value in let far = tree_of c.in-Beside.far.value in
    IfOk-weaker c.beside.result _ _
    (λ t h. subst (λ u. AreAlike (tree_of t) (Beside s u)) (sym (ap tree_of c.in-Beside.is))
    (AreAlike.through (alike-is (h ∙ ap (λ u. Beside u far) c.in_ok-together-in-Beside.ensures.tree)) AreAlike.left_first))
    c.beside.ensures.tree

pub returns-in_ok-new-in_default : goal.returns-in_ok-new-in_default
returns-in_ok-new-in_default c = record {
  tree =
      IfOk-weaker c.beside-in_default.result _ _
      (λ t h. alike-is (h ∙ ap (λ v. Beside (tree_of c.args.smaller.value) (tree_of v)) c.in_ok-new-in_default.ensures.ok))
      c.beside-in_default.ensures.tree;
  counted = c.beside-in_default.ensures.counted;
}
