use Rattle.std.proofs.Common.{map, ap, ◌∙◌, sym, arith}
use Rattle.std.proofs.lemmas.Result.{IfOk-weaker}
use Rattle.sections.specs.Covers.{has}
use Rattle.sections.specs.Joining.{is_ascending}
use Rattle.sections.specs.Translation.{window}
use Rattle.sections.proofs.Sorting.{sorted-filter, first_and_rest, empty_list}
use Rattle.sections.proofs.cover.cover.Goals as goal

pub join-requires : goal.join-requires
join-requires c =
    ap (λ xs. is_ascending (map window xs))
    (first_and_rest c.as_slice.result.now c.first-item.result c.in-len1-up.len_at_least c.first-item.is ∙ c.as_slice.ensures.value)
    ∙ (sorted-filter c.args.windows.now c.in_ok-sorted.sorted.items c.sort_unstable.new.self.items c.in_ok-sorted.ensures
    c.sort_unstable.ensures.permutation c.sort_unstable.ensures.sorted).ascending

pub returns-in-empty-clause-places : goal.returns-in-empty-clause-places
returns-in-empty-clause-places c q =
    ap (λ xs. has (map window xs) q) (c.new.ensures.items
    ∙ sym (sym c.as_slice.ensures.value ∙ empty_list c.as_slice.result.now (omega (arith, c.in-empty.len_below))))
    ∙ (sorted-filter c.args.windows.now c.in_ok-sorted.sorted.items c.sort_unstable.new.self.items c.in_ok-sorted.ensures
    c.sort_unstable.ensures.permutation c.sort_unstable.ensures.sorted).places q

pub returns-clause-places : goal.returns-clause-places
returns-clause-places c = IfOk-weaker c.join.result _ _ (λ v h q.
    h q ∙ ap (λ xs. has (map window xs) q)
    (first_and_rest c.as_slice.result.now c.first-item.result c.in-len1-up.len_at_least c.first-item.is ∙ c.as_slice.ensures.value)
    ∙ (sorted-filter c.args.windows.now c.in_ok-sorted.sorted.items c.sort_unstable.new.self.items c.in_ok-sorted.ensures
    c.sort_unstable.ensures.permutation c.sort_unstable.ensures.sorted).places q)
    c.join.ensures.places
