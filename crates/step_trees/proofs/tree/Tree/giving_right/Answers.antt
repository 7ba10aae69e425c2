use Rattle.std.proofs.Common.{sym, ap, ◌∙◌, subst}
use Rattle.std.proofs.lemmas.Result.{IfOk-weaker}
use Rattle.types.specs.Trees.{Beside}
use Rattle.step_trees.specs.Alike.{AreAlike}
use Rattle.step_trees.specs.Held.{tree_of}
use Rattle.step_trees.proofs.AlikeTrees.{alike-is}
use Rattle.step_trees.proofs.tree.Tree.giving_right.Goals as goal

pub returns-in_ok-together-in-Beside-clause-tree : goal.returns-in_ok-together-in-Beside-clause-tree
returns-in_ok-together-in-Beside-clause-tree c =
    let s = tree_of c.args.smaller.value in let far = tree_of c.in-Beside.far.value in
    IfOk-weaker c.beside.result _ _
    (λ t h. subst (λ u. AreAlike (tree_of t) (Beside u s)) (sym (ap tree_of c.in-Beside.is))
    (AreAlike.through (alike-is (h ∙ ap (Beside far) c.in_ok-together-in-Beside.ensures.tree)) AreAlike.right_first))
    c.beside.ensures.tree

pub returns-else-from-clause-tree : goal.returns-else-from-clause-tree
returns-else-from-clause-tree c =
    let s = tree_of c.args.smaller.value in let far = tree_of c.in-Beside.far.value in
    IfOk-weaker c.between.result _ _
    (λ t h. subst (λ u. AreAlike (tree_of t) (Beside u s)) (sym (ap tree_of c.in-Beside.is))
    (AreAlike.through (subst (λ v. AreAlike (tree_of t) (Beside far (Beside (tree_of v) s))) c.into_inner.ensures h)
    AreAlike.right_first))
    c.between.ensures.tree

pub returns-in_ok-new-in_default : goal.returns-in_ok-new-in_default
returns-in_ok-new-in_default c = record {
  tree =
      IfOk-weaker c.beside-in_default.result _ _
      (λ t h. alike-is (h ∙ ap (λ v. Beside (tree_of v) (tree_of c.args.smaller.value)) c.in_ok-new-in_default.ensures.ok))
      c.beside-in_default.ensures.tree;
  counted = c.beside-in_default.ensures.counted;
}
