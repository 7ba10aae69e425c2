use Rattle.step_trees.proofs.Dropping.{turns_both}
use Rattle.step_trees.proofs.tree.Tree.drop.Given as goal

abbrev pub decreases-parts : goal.decreases-parts
decreases-parts l = turns_both l.self l.others
