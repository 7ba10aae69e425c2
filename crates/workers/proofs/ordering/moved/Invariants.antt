use Rattle.std.specs.Prelude.{IsPermutation}
use Rattle.workers.proofs.ordering.moved.Given as goal

-- the results so far are the given ones in another order
abbrev pub invariant-swaps : goal.invariant-swaps
invariant-swaps l = IsPermutation l.fn.results.items l.results.items

abbrev pub decreases-swaps : goal.decreases-swaps
decreases-swaps l = l.left
