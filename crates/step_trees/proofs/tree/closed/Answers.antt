use Rattle.std.proofs.Common.{◌∙◌}
use Rattle.std.proofs.lemmas.Result.{IfOk-weaker}
use Rattle.step_trees.specs.Translation.{leaf_of, handler_of}
use Rattle.step_trees.specs.Held.{tree_of}
use Rattle.step_trees.proofs.HeldTrees.{goes_on}
use Rattle.step_trees.proofs.tree.closed.Goals as goal

pub returns : goal.returns
returns c =
    let w = c.args.waiting in
    IfOk-weaker c.continued.result _ _
    (λ k e. e ∙ goes_on (tree_of c.args.first) (handler_of w.handler) (leaf_of w.leaf) c.in_ok-remains.remains c.in_ok-remains.ensures)
    c.continued.ensures
