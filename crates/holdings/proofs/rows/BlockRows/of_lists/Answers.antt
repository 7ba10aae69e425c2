use Rattle.std.proofs.Common.{◌+◌, ◌++◌, ◌∷◌, [], List, map, take, sym, ap, ◌∙◌, subst, option_map, slice_get}
use Rattle.std.proofs.lemmas.List.{take_all}
use Rattle.std.specs.Prelude.{ℤ}
use Rattle.blocks.specs.Held.{Owned, as_owned}
use Rattle.holdings.specs.Lists.{listed}
use Rattle.holdings.specs.declared.row.BlockRow.{BlockRow}
use Rattle.holdings.proofs.MakingLemmas.{AreListed, listed-held, listed-more, lists-more}
use Rattle.holdings.proofs.rows.BlockRows.of_lists.Goals as goal

pub loop-numbers-preserved : goal.loop-numbers-preserved
loop-numbers-preserved c =
    let vs = c.args.lists.now in
    let i = c.loop-numbers.numbers-index in
    let v = c.numbers-item.result in
    let rs = c.loop-numbers.list.items in
    let ls : List (List ℤ) = map (λ v. v.items) (take i vs) in
    let here = listed-more rs ls c.in_ok-of_numbers.field-0 v.items c.loop-numbers.invariant
    (λ k. c.in_ok-of_numbers.ensures k ∙ ap (λ (l : List ℤ). option_map Owned (slice_get l k)) c.deref.ensures.value) in
    subst (λ (xs : List BlockRow). AreListed xs (map (λ v. v.items) (take (i + 1) vs))) (sym c.in_ok-push.ensures.items)
    (subst (AreListed (rs ++ c.in_ok-of_numbers.field-0 ∷ [])) (sym (lists-more vs i v c.loop-numbers-test.true c.numbers-item.is)) here)

pub returns : goal.returns
returns c =
    let vs = c.args.lists.now in
    let i = c.loop-numbers.numbers-index in
    let all = take_all i vs c.loop-numbers-test.false in
    listed-held c.loop-numbers.list.items (map (λ v. v.items) (take i vs)) c.loop-numbers.invariant
    ∙ ap (λ (l : List _). as_owned (listed (map (λ v. v.items) l))) all
