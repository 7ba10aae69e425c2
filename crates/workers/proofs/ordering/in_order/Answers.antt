use Rattle.std.proofs.lemmas.List.Sorted.{IsPermutation-refl, IsPermutation-trans}
use Rattle.workers.proofs.ordering.in_order.Goals as goal

pub returns-then-not-are_falling : goal.returns-then-not-are_falling
returns-then-not-are_falling c = IsPermutation-refl c.args.results.items

pub returns-in-Some : goal.returns-in-Some
returns-in-Some c =
    IsPermutation-trans c.args.results.items c.reversed-results.result.items c.moved.result.items c.reversed-results.ensures
    c.moved.ensures
