use Rattle.std.proofs.Common.{arith, refl}
use Rattle.holdings.proofs.RoomLemmas.{RowsApart, item-rows_apart, places-rows_apart, rows_apart-done, rows_apart-item, so_far-more}
use Rattle.holdings.proofs.WritingLemmas.{item_at, no_item_at}
use Rattle.holdings.proofs.rows.BlockRows.are_apart.Goals as goal

pub loop-array-init : goal.loop-array-init
loop-array-init c = λ i lt. absurd (omega (arith, lt))

pub returns-then-not-is_apart : goal.returns-then-not-is_apart
returns-then-not-is_apart c =
    let own = c.args.self.now.list.items in
    let others = c.args.others.now.list.items in
    let n = c.loop-array.array in
    let at = item_at c.deref-row-items.ensures.value c.loop-array-test.true c.row-item.is in (
      λ t. absurd (cc),
      λ apart. absurd (let e = c.is_apart.ensures.1 (item-rows_apart own others n _ at.0 at.1
          (places-rows_apart own others n apart)) in cc),
    )

pub loop-array-preserved : goal.loop-array-preserved
loop-array-preserved c =
    let own = c.args.self.now.list.items in
    let others = c.args.others.now.list.items in
    let n = c.loop-array.array in
    let at = item_at c.deref-row-items.ensures.value c.loop-array-test.true c.row-item.is in
    so_far-more (RowsApart own others) n c.loop-array.invariant (rows_apart-item own others n _ at.0 at.1
    (c.is_apart.ensures.0 c.if-not-is_apart.false))

pub returns : goal.returns
returns c =
    let all = no_item_at c.deref-row-items.ensures.value c.loop-array-test.false in (
      λ t. rows_apart-done c.args.self.now.list.items c.args.others.now.list.items c.loop-array.array all
          c.loop-array.invariant,
      λ h. refl,
    )
