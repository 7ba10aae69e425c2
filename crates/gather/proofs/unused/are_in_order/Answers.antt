use Rattle.std.proofs.Common.{rules, Some, refl}
use Rattle.std.proofs.lemmas.Fn.{always_returns_same}
use Rattle.std.specs.Ordering.{nat_cmp, partial_le}
use Rattle.std.specs.Cmp.Lexicographic.{slice_partial_cmp}
use Rattle.gather.proofs.unused.are_in_order.Goals as goal

pub returns : goal.returns
returns c =
    c.is_sorted_by.ensures.cases
    (λ one next. partial_le (slice_partial_cmp (λ x y. Some (nat_cmp x y))) one.path.turns.items next.path.turns.items)
    (always_returns_same _ _ _ (λ a r f' called. (search rules, refl)))
