use Rattle.step_trees.specs.Held.{tree_of}
use Rattle.step_trees.proofs.Places.{placed_ready}
use Rattle.step_trees.proofs.walk.placed.Goals as goal

pub returns-clause-place : goal.returns-clause-place
returns-clause-place c = record {
  round = c.requires.round;
  tree = c.requires.tree;
  settled = c.requires.settled;
  ready =
      placed_ready c.args.round (tree_of c.args.tree) c.in_ok-ready.ready c.ready-here.result c.requires.round c.requires.settled
      c.ready-here.ensures c.in_ok-ready.ensures;
}
