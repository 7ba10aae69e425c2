use Rattle.std.proofs.Common.{◌≡◌, ◌++◌, ◌∙◌, List, [], ◌∷◌, length, map, refl, sym, ap, append-nil, rules}
use Rattle.types.specs.Translation.{code, codes}
use Rattle.effects.specs.Effects.{accesses}
use Rattle.effects.specs.Tables.{left_by}
use Rattle.effects.specs.Translation.{access}
use Rattle.effects.specs.declared.access.Access.{Access as rAccess}
use Rattle.parallel_relation.specs.Listing.{alls_of, pendings_of}
use Rattle.parallel_relation.specs.Order.{meeting_of}
use Rattle.parallel_relation.specs.Translation.{meeting}
use Rattle.parallel_relation.proofs.NothingAdded.{nothing_added}
use Rattle.parallel_relation.proofs.meetings.add_pairs.Goals as goal

nothing_in : (xs : List rAccess) → length xs ≡ 0 → map access xs ≡ []
nothing_in [] e = refl
nothing_in (x ∷ xs) e = cc

pub returns-then-is_empty : goal.returns-then-is_empty
returns-then-is_empty c =
    let lists = c.args.lists.now in
    let l = c.args.statement.now.label in
    let s = code c.args.statement.now.kind in
    let left = left_by accesses (alls_of lists) (pendings_of lists) s in
    let empty : length c.add_left_by.new.into.items ≡ 0 = search rules in
    let none : left ≡ [] =
    sym (c.in_ok-add_left_by.ensures ∙ ap (λ (xs : List rAccess). map access xs ++ left) c.new-left.ensures.items)
    ∙ nothing_in c.add_left_by.new.into.items empty in
    sym (ap (λ ms. map meeting c.args.into.now.items ++ map meeting_of ms)
    (nothing_added accesses (alls_of lists) (pendings_of lists) l s (codes c.args.rest.now) none) ∙ append-nil (map meeting c.args.into.now.items))
