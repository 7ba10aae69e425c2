use Rattle.std.proofs.Common.{◌+◌}
use Rattle.step_trees.specs.Held.{tree_of, inside}
use Rattle.step_trees.specs.Places.{lefts, IsRound}
use Rattle.step_trees.proofs.Walks.{Way}
use Rattle.step_trees.proofs.tree.Tree.leaf.Given as goal

-- the leaf is the one that is sought, and its step is the step of the whole tree
abbrev pub invariant-down : goal.invariant-down
invariant-down l =
    let xs = l.fn.round.around.items in
    record {
      round : IsRound l.round;
      way : Way (lefts xs + l.fn.choice) (inside xs (tree_of l.fn.self)) l.round.around.items l.choice l.self;
    }
