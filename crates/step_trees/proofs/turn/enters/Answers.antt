use Rattle.std.proofs.Common.{ap, ◌∙◌}
use Rattle.types.specs.Code.{Codes}
use Rattle.types.specs.Trees.{Leaf, Tree, single}
use Rattle.step_trees.specs.Turns.{leaf_in}
use Rattle.step_trees.proofs.turn.enters.Goals as goal

pub returns : goal.returns
returns c =
    let k = leaf_in c.args.turn in
    let with_rest : Codes → Tree = λ b. let j : Leaf = record k { rest = b } in single j in
    record {
      tree = c.going.ensures.tree ∙ ap with_rest c.in_ok-enter.ensures;
      store = c.going.ensures.store;
      lengths = c.going.ensures.lengths;
    }
