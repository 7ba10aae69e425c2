use Rattle.std.proofs.Common.{ap, ◌∙◌}
use Rattle.types.specs.Trees.{Single, done}
use Rattle.statement_steps.specs.Lists.{contents_of, lengths_of}
use Rattle.step_trees.proofs.turn.ended.Goals as goal

pub returns : goal.returns
returns c = record {
  tree = ap Single (c.done.ensures ∙ ap done c.apart-leaf.ensures.leaf);
  store = ap contents_of c.apart-leaf.ensures.store;
  lengths = ap lengths_of c.apart-leaf.ensures.store;
}
