use Rattle.std.proofs.Common.{subst}
use Rattle.std.proofs.lemmas.List.{take_all}
use Rattle.holdings.proofs.CopyLemmas.{HoldAlike, alike-held, copied-more, rows-push}
use Rattle.holdings.proofs.WritingLemmas.{no_item_at}
use Rattle.holdings.proofs.rows.BlockRows.again.Goals as goal

pub loop-row-preserved : goal.loop-row-preserved
loop-row-preserved c =
    copied-more HoldAlike _ _ c.deref-row-items.ensures.value c.in_ok-push.ensures.items
    c.loop-row.invariant.1 c.loop-row-test.true c.row-item.is
    (λ long. rows-push _ _ _ _ c.loop-row.invariant.0 long c.in_ok-again.ensures)

pub returns : goal.returns
returns c =
    let all = take_all _ _ (no_item_at c.deref-row-items.ensures.value c.loop-row-test.false) in
    alike-held _ _ (subst (HoldAlike c.loop-row.list.items) all c.loop-row.invariant.0)
