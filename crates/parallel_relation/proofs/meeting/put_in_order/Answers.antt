use Rattle.std.proofs.Common.{map, subst, sym}
use Rattle.std.proofs.lemmas.List.Filters.{dedup_is}
use Rattle.std.proofs.lemmas.List.Kept.{Contains-dedup, Contains-from_dedup, IsStrictlySortedBy-dedup}
use Rattle.std.proofs.lemmas.List.Sorted.{Contains-permutation, IsPermutation-sym}
use Rattle.std.specs.Cmp.Lexicographic.{on_texts, on_texts_equal, texts_ties, same_text}
use Rattle.std.specs.Prelude.{Contains, List}
use Rattle.effects.proofs.OwnAccesses.{contained}
use Rattle.parallel_relation.specs.Order.{Ascends}
use Rattle.parallel_relation.specs.Translation.{meeting, key_in}
use Rattle.parallel_relation.specs.declared.meeting.Meeting.{Meeting}
use Rattle.parallel_relation.proofs.MeetingLemmas.{ascends, member_contained, same_meeting, through_members}
use Rattle.parallel_relation.proofs.meeting.put_in_order.Goals as goal

pub returns-clause-ascending : goal.returns-clause-ascending
returns-clause-ascending c =
    subst (λ (ms : List Meeting). Ascends (map meeting ms)) (sym (dedup_is _ _ _ c.dedup.ensures.filtered))
    (ascends _ (IsStrictlySortedBy-dedup (on_texts key_in) (λ x y. texts_ties (key_in x) (key_in y)) _ c.sort_unstable.ensures.sorted))

pub returns-clause-same : goal.returns-clause-same
returns-clause-same c =
    let is = dedup_is _ _ _ c.dedup.ensures.filtered in
    let moved = c.sort_unstable.ensures.permutation in
    through_members _ _
    (λ m h. contained m _ (Contains-permutation _ _ m (IsPermutation-sym _ _ moved)
    (Contains-from_dedup _ _ m (subst (λ (ms : List Meeting). Contains ms m) is (member_contained h)))))
    (λ m h. contained m _ (subst (λ (ms : List Meeting). Contains ms m) (sym is)
    (Contains-dedup (on_texts_equal key_in) (λ x y e. same_meeting x y (same_text (key_in x) (key_in y) (sym e))) _ m
    (Contains-permutation _ _ m moved (member_contained h)))))
