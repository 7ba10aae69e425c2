use Rattle.std.proofs.Common.{◌≡◌, vec_len}
use Rattle.types.specs.Trees.{returned}
use Rattle.types.specs.Translation.{environment}
use Rattle.step_trees.specs.Translation.{blocks, callers, leaf_of}
use Rattle.step_trees.proofs.leaf.returned.Given as goal

-- the current leaf returns to where the first one does
abbrev pub invariant-calls : goal.invariant-calls
invariant-calls l =
    returned (record (leaf_of l.fn.leaf) {
      environment = environment l.environment;
      rest = blocks l.rest.items;
      callers = callers l.callers.items;
    }) ≡ returned (leaf_of l.fn.leaf)

abbrev pub decreases-calls : goal.decreases-calls
decreases-calls l = vec_len l.callers
