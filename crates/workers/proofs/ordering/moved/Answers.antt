use Rattle.std.proofs.lemmas.List.Sorted.{IsPermutation-refl, IsPermutation-trans}
use Rattle.workers.proofs.ordering.moved.Goals as goal

pub swaps-init : goal.swaps-init
swaps-init c = IsPermutation-refl c.args.results.items

pub swaps-preserved : goal.swaps-preserved
swaps-preserved c =
    IsPermutation-trans c.args.results.items c.swaps.results.items c.swapped-next.new.results.items c.swaps.invariant c.swapped-next.ensures
