use Rattle.std.proofs.Common.{◌≡◌, length, ap, arith, subst}
use Rattle.std.proofs.lemmas.List.{take_all}
use Rattle.holdings.proofs.CopyLemmas.{AreAlike, alike-push, alike-row, copied-more}
use Rattle.holdings.proofs.WritingLemmas.{no_item_at}
use Rattle.holdings.proofs.row.BlockRow.again.Goals as goal

pub loop-block-preserved : goal.loop-block-preserved
loop-block-preserved c =
    copied-more AreAlike _ _ c.deref-block-items.ensures.value c.in_ok-push.ensures.items
    c.loop-block.invariant.1 c.loop-block-test.true c.block-item.is
    (λ long. alike-push _ _ _ _ c.loop-block.invariant.0 long c.in_ok-again.ensures)

pub invariant_of-result : goal.invariant_of-result
invariant_of-result c =
    let s = c.args.self.now in
    let long : length c.deref-block-items.result.now ≡ length s.blocks.items = ap length c.deref-block-items.ensures.value in
    record { within = omega (arith, c.loop-block.invariant.1, c.loop-block.auto.block-index-end, long, s.within) }

pub returns : goal.returns
returns c =
    let all = take_all _ _ (no_item_at c.deref-block-items.ensures.value c.loop-block-test.false) in
    alike-row c.args.self.now.first _ _ (subst (AreAlike c.loop-block.blocks.items) all
    c.loop-block.invariant.0)
