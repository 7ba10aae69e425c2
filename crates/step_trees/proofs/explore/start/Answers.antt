use Rattle.std.proofs.Common.{ap, ◌∙◌}
use Rattle.std.proofs.lemmas.Result.{IfOk-weaker}
use Rattle.step_trees.specs.Held.{tree_of, inside}
use Rattle.step_trees.proofs.explore.start.Goals as goal

pub returns-clause-tree : goal.returns-clause-tree
returns-clause-tree c =
    IfOk-weaker c.placed.result _ _
    (λ k h. h ∙ ap (λ xs. inside xs (tree_of c.in_ok-tree.tree)) c.nothing.ensures.none ∙ c.in_ok-tree.ensures.tree)
    c.placed.ensures.whole
