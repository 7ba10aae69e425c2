use Rattle.std.proofs.Common.{ap, ◌∙◌}
use Rattle.types.specs.Trees.{Single, returned}
use Rattle.statement_steps.specs.Lists.{contents_of, lengths_of}
use Rattle.step_trees.proofs.turn.going.Goals as goal

pub returns : goal.returns
returns c = record {
  tree = ap Single (c.returned.ensures ∙ ap returned c.apart-leaf.ensures.leaf);
  store = ap contents_of c.apart-leaf.ensures.store;
  lengths = ap lengths_of c.apart-leaf.ensures.store;
}
