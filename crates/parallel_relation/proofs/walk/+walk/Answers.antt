use Rattle.std.proofs.Common.{◌≡◌, ◌-◌, List, [], length, drop, ap, sym, subst, refl, arith}
use Rattle.std.proofs.lemmas.List.{drop_all}
use Rattle.std.proofs.lemmas.Result.{on_ok_weaker}
use Rattle.types.specs.Code.{End}
use Rattle.types.specs.Translation.{program, code, codes}
use Rattle.types.specs.declared.code.Stmt.{Stmt}
use Rattle.effects.specs.Effects.{labels, All}
use Rattle.effects.specs.LabelSets.{HasLabel}
use Rattle.parallel_relation.specs.Around.{Adds, Gains, BlockMeets}
use Rattle.parallel_relation.specs.Found.{FoundMeets}
use Rattle.parallel_relation.proofs.LabelsLemmas.{nothing_behind, one_more}
use Rattle.effects.proofs.Statements.{size_in, codes_before, smaller, size-drop, is_If, is_While, is_Split, is_Parts, is_Async, is_Finish}
use Rattle.effects.proofs.Statements.{is_Rescue}
use Rattle.parallel_relation.proofs.Sums.{adds_nothing, adds_joined}
use Rattle.parallel_relation.proofs.WalkLemmas.{gains_copied, no_block, adds_later, adds_async, adds_finish, adds_statement, adds_before}
use Rattle.parallel_relation.proofs.walk.+walk.Goals as goal

pub walk-loop-k-init : goal.walk-loop-k-init
walk-loop-k-init t c =
    let p = program c.args.guide.code.now in
    let xs = c.args.block.now in
    let e = HasLabel c.args.everything.now in
    let k = HasLabel c.args.later.now in
    let end : drop (length xs) xs ≡ [] = drop_all (length xs) xs (omega arith) in
    record {
      behind = subst (λ (ys : List Stmt). Gains k (All p labels (codes ys)) (HasLabel c.in_ok-behind.behind)) (sym end)
          (nothing_behind p c.in_ok-behind.ensures);
      found = subst (λ (ys : List Stmt). Adds (FoundMeets p c.args.found.now) (BlockMeets p e k (codes ys)) (FoundMeets p c.args.found.now)) (sym end)
          (adds_nothing (FoundMeets p c.args.found.now) (BlockMeets p e k End) (no_block p e k));
    }

pub walk-walk_inside-requires : goal.walk-walk_inside-requires
walk-walk_inside-requires t c =
    let xs = c.args.block.now in
    let k = c.loop-k.k in
    let fewer = smaller xs k c.index-block-k.result c.loop-k-test.true c.loop-k.auto.k c.index-block-k.is in
    (omega (arith, fewer, size-drop (k - 1) xs), c.requires)

pub walk-loop-k-preserved : goal.walk-loop-k-preserved
walk-loop-k-preserved t c =
    let p = program c.args.guide.code.now in
    let xs = c.args.block.now in
    let e = HasLabel c.args.everything.now in
    let later = HasLabel c.args.later.now in
    let behind = HasLabel c.loop-k.behind in
    let k = c.loop-k.k in
    let x = c.index-block-k.result in
    let rest = codes (drop k xs) in
    let here = codes_before xs k x c.loop-k-test.true c.loop-k.auto.k c.index-block-k.is in
    let first = adds_statement p e behind x.label (code x.kind) (c.in_ok-add_label.ensures p) c.in_ok-walk_inside.ensures in
    record {
      behind = subst (λ b. Gains later (All p labels b) (HasLabel c.add_labels_of.new.set)) (sym here)
          (one_more p x.label (code x.kind) rest c.loop-k.invariant.behind c.in_ok-add_labels_of.ensures);
      found = subst (λ b. Adds (FoundMeets p c.args.found.now) (BlockMeets p e later b) (FoundMeets p c.walk_inside.new.found)) (sym here)
          (adds_before p e later behind x.label (code x.kind) rest c.loop-k.invariant.behind c.loop-k.invariant.found first);
    }

pub walk-returns : goal.walk-returns
walk-returns t c =
    let p = program c.args.guide.code.now in
    let first : c.loop-k.k ≡ 0 = omega arith in
    subst (λ k. Adds (FoundMeets p c.args.found.now) (BlockMeets p (HasLabel c.args.everything.now) (HasLabel c.args.later.now)
    (codes (drop k c.args.block.now))) (FoundMeets p c.loop-k.found)) first c.loop-k.invariant.found

pub walk_inside-returns-in-Do : goal.walk_inside-returns-in-Do
walk_inside-returns-in-Do t c =
    rw (ap code c.in-Do.is) (adds_nothing (FoundMeets (program c.args.guide.code.now) c.args.found.now) _ (λ x y m. m))

pub walk_inside-returns-in-Call : goal.walk_inside-returns-in-Call
walk_inside-returns-in-Call t c =
    rw (ap code c.in-Call.is) (on_ok_weaker c.add_call.result (λ h. h (program c.args.guide.code.now)) c.add_call.ensures)

pub walk_inside-walk-requires : goal.walk_inside-walk-requires
walk_inside-walk-requires t c =
    let is = is_If _ c.in-If.guard c.in-If.body c.in-If.other c.deref.result.now c.in-If.other.items c.in-If.is c.deref.ensures.value refl in
    (omega (arith, ap size_in is), c.requires)

pub walk_inside-walk-requires-in-If : goal.walk_inside-walk-requires-in-If
walk_inside-walk-requires-in-If t c =
    let is = is_If _ c.in-If.guard c.in-If.body c.in-If.other c.in-If.body.items c.deref-in-If.result.now c.in-If.is refl c.deref-in-If.ensures.value in
    (omega (arith, ap size_in is), c.requires)

pub walk_inside-returns-in_ok-walk-in-If : goal.walk_inside-returns-in_ok-walk-in-If
walk_inside-returns-in_ok-walk-in-If t c =
    rw (is_If _ c.in-If.guard c.in-If.body c.in-If.other c.deref.result.now c.deref-in-If.result.now c.in-If.is c.deref.ensures.value c.deref-in-If.ensures.value)
    (on_ok_weaker c.walk-in-If.result (λ h. adds_joined _ c.in_ok-walk-in-If.ensures h (λ x y m. m) (λ x y m. m)) c.walk-in-If.ensures)

pub walk_inside-walk-requires-in-While : goal.walk_inside-walk-requires-in-While
walk_inside-walk-requires-in-While t c =
    let is = is_While _ c.in-While.guard c.in-While.body c.deref-in-While.result.now c.in-While.is c.deref-in-While.ensures.value in
    (omega (arith, ap size_in is), c.requires)

pub walk_inside-returns-in_ok-add_labels_of-in-While : goal.walk_inside-returns-in_ok-add_labels_of-in-While
walk_inside-returns-in_ok-add_labels_of-in-While t c =
    let p = program c.args.guide.code.now in
    let is = is_While _ c.in-While.guard c.in-While.body c.deref-in-While.result.now c.in-While.is c.deref-in-While.ensures.value in
    let copied = gains_copied c.in_ok-again-in-While.ensures c.in_ok-add_labels_of-in-While.ensures in
    let again = rw is at copied in
    rw is (on_ok_weaker c.walk-in-While.result (adds_later p (HasLabel c.args.everything.now) (codes c.deref-in-While.result.now) again) c.walk-in-While.ensures)

pub walk_inside-walk-requires-in-Split : goal.walk_inside-walk-requires-in-Split
walk_inside-walk-requires-in-Split t c =
    let s = c.in-Split in
    let is = is_Split _ s.sides s.body c.deref-in-Split.result.now s.is c.deref-in-Split.ensures.value in
    (omega (arith, ap size_in is), c.requires)

pub walk_inside-returns-in-Split : goal.walk_inside-returns-in-Split
walk_inside-returns-in-Split t c =
    let s = c.in-Split in
    rw (is_Split _ s.sides s.body c.deref-in-Split.result.now s.is c.deref-in-Split.ensures.value) c.walk-in-Split.ensures

pub walk_inside-walk-requires-in-Parts : goal.walk_inside-walk-requires-in-Parts
walk_inside-walk-requires-in-Parts t c =
    let is = is_Parts _ c.in-Parts.pieces c.in-Parts.body c.deref-in-Parts.result.now c.in-Parts.is c.deref-in-Parts.ensures.value in
    (omega (arith, ap size_in is), c.requires)

pub walk_inside-returns-in_ok-add_labels_of-in-Parts : goal.walk_inside-returns-in_ok-add_labels_of-in-Parts
walk_inside-returns-in_ok-add_labels_of-in-Parts t c =
    let p = program c.args.guide.code.now in
    let is = is_Parts _ c.in-Parts.pieces c.in-Parts.body c.deref-in-Parts.result.now c.in-Parts.is c.deref-in-Parts.ensures.value in
    let copied = gains_copied c.in_ok-further-in-Parts.ensures c.in_ok-add_labels_of-in-Parts.ensures in
    let again = rw is at copied in
    rw is (on_ok_weaker c.walk-in-Parts.result (adds_later p (HasLabel c.args.everything.now) (codes c.deref-in-Parts.result.now) again) c.walk-in-Parts.ensures)

pub walk_inside-walk-requires-in-Async : goal.walk_inside-walk-requires-in-Async
walk_inside-walk-requires-in-Async t c =
    let is = is_Async _ c.in-Async.body c.deref-in-Async.result.now c.in-Async.is c.deref-in-Async.ensures.value in
    (omega (arith, ap size_in is), c.requires)

pub walk_inside-returns-in_ok-beside-in-Async : goal.walk_inside-returns-in_ok-beside-in-Async
walk_inside-returns-in_ok-beside-in-Async t c =
    rw (is_Async _ c.in-Async.body c.deref-in-Async.result.now c.in-Async.is c.deref-in-Async.ensures.value)
    (on_ok_weaker c.walk-in-Async.result (adds_async (program c.args.guide.code.now) (codes c.deref-in-Async.result.now) c.in_ok-beside-in-Async.ensures
    c.new-none.ensures) c.walk-in-Async.ensures)

pub walk_inside-walk-requires-in-Finish : goal.walk_inside-walk-requires-in-Finish
walk_inside-walk-requires-in-Finish t c =
    let is = is_Finish _ c.in-Finish.body c.deref-in-Finish.result.now c.in-Finish.is c.deref-in-Finish.ensures.value in
    (omega (arith, ap size_in is), c.requires)

pub walk_inside-returns-in-Finish : goal.walk_inside-returns-in-Finish
walk_inside-returns-in-Finish t c =
    rw (is_Finish _ c.in-Finish.body c.deref-in-Finish.result.now c.in-Finish.is c.deref-in-Finish.ensures.value)
    (on_ok_weaker c.walk-in-Finish.result (adds_finish (program c.args.guide.code.now) (HasLabel c.args.everything.now) (HasLabel c.new-none-in-Finish.result)
    (codes c.deref-in-Finish.result.now) c.new-none-in-Finish.ensures) c.walk-in-Finish.ensures)

pub walk_inside-walk-requires-in-Rescue : goal.walk_inside-walk-requires-in-Rescue
walk_inside-walk-requires-in-Rescue t c =
    let is = is_Rescue _ c.in-Rescue.body c.in-Rescue.faults c.in-Rescue.handler c.deref-in-Rescue.result.now c.in-Rescue.handler.items c.in-Rescue.is
    c.deref-in-Rescue.ensures.value refl in
    (omega (arith, ap size_in is), c.requires)

pub walk_inside-walk-requires-in-Rescue-2 : goal.walk_inside-walk-requires-in-Rescue-2
walk_inside-walk-requires-in-Rescue-2 t c =
    let is = is_Rescue _ c.in-Rescue.body c.in-Rescue.faults c.in-Rescue.handler c.in-Rescue.body.items c.deref-in-Rescue-2.result.now c.in-Rescue.is
    refl c.deref-in-Rescue-2.ensures.value in
    (omega (arith, ap size_in is), c.requires)

pub walk_inside-returns-in_ok-walk-in-Rescue : goal.walk_inside-returns-in_ok-walk-in-Rescue
walk_inside-returns-in_ok-walk-in-Rescue t c =
    let p = program c.args.guide.code.now in
    let first = adds_finish p (HasLabel c.args.everything.now) (HasLabel c.new-none-in-Rescue.result) (codes c.deref-in-Rescue.result.now)
    c.new-none-in-Rescue.ensures c.in_ok-walk-in-Rescue.ensures in
    rw (is_Rescue _ c.in-Rescue.body c.in-Rescue.faults c.in-Rescue.handler c.deref-in-Rescue.result.now c.deref-in-Rescue-2.result.now c.in-Rescue.is
    c.deref-in-Rescue.ensures.value c.deref-in-Rescue-2.ensures.value)
    (on_ok_weaker c.walk-in-Rescue-2.result (λ h. adds_joined _ first h (λ x y m. m) (λ x y m. m)) c.walk-in-Rescue-2.ensures)
