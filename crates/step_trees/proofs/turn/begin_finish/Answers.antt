use Rattle.std.proofs.Common.{ap, refl}
use Rattle.types.specs.Translation.{codes}
use Rattle.statement_steps.specs.Lists.{contents_of, lengths_of}
use Rattle.step_trees.specs.Translation.{leaf_of, handler_of}
use Rattle.step_trees.specs.Turns.{leaf_in}
use Rattle.step_trees.proofs.Turns.{entered_tree}
use Rattle.step_trees.proofs.turn.begin_finish.Goals as goal

pub returns : goal.returns
returns c = record {
  tree =
      entered_tree (codes c.args.body.now) (handler_of c.args.handler) (leaf_in c.args.turn) (leaf_of c.apart-behind.result.0) c.in_ok-path.path.turns.items
      c.args.turn.thread.spawned (leaf_of c.in_ok-body.body) (leaf_of c.inside.new.around) c.apart-behind.ensures.leaf
      c.in_ok-path.ensures refl c.in_ok-body.ensures.inside c.in_ok-body.ensures.around;
  store = ap contents_of c.apart-behind.ensures.store;
  lengths = ap lengths_of c.apart-behind.ensures.store;
}
