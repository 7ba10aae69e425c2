use Rattle.std.proofs.Common.{sym, ap, ◌∙◌}
use Rattle.std.proofs.lemmas.Result.{IfOk-weaker}
use Rattle.step_trees.specs.Held.{tree_of, within}
use Rattle.step_trees.proofs.AlikeTrees.{alike-is}
use Rattle.step_trees.proofs.tree.Around.within.Goals as goal

pub returns-in-Behind-clause-tree : goal.returns-in-Behind-clause-tree
returns-in-Behind-clause-tree c =
    let t = tree_of c.args.tree in
    IfOk-weaker c.and_then.result _ _ (λ u h. alike-is (h ∙ ap (λ x. within x t) (sym c.in-Behind.is))) c.and_then.ensures.tree
