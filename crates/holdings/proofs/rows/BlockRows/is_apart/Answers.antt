use Rattle.std.proofs.Common.{refl}
use Rattle.holdings.proofs.RoomLemmas.{IsApartAt, apart-none, each_block-begun, each_block-done, each_block-item, each_block-more}
use Rattle.holdings.proofs.WritingLemmas.{item_at, no_item_at}
use Rattle.holdings.proofs.rows.BlockRows.is_apart.Goals as goal

pub loop-at-init : goal.loop-at-init
loop-at-init c =
    let own = c.args.self.now.list.items in
    each_block-begun (IsApartAt own c.args.array) (apart-none own c.args.array) c.args.row.now

pub returns-then-not-is_free : goal.returns-then-not-is_free
returns-then-not-is_free c =
    let own = c.args.self.now.list.items in
    let at = item_at c.deref-theirs-items.ensures.value c.loop-at-test.true c.theirs-item.is in (
      λ t. absurd (cc),
      λ all. absurd (let e = c.is_free.ensures.1 (each_block-item (IsApartAt own c.args.array) (apart-none own c.args.array)
          c.args.row.now _ _ at.0 at.1 all) in cc),
    )

pub loop-at-preserved : goal.loop-at-preserved
loop-at-preserved c =
    let own = c.args.self.now.list.items in
    let at = item_at c.deref-theirs-items.ensures.value c.loop-at-test.true c.theirs-item.is in
    each_block-more (IsApartAt own c.args.array) (apart-none own c.args.array) c.args.row.now _ _ at.0 at.1 c.loop-at.invariant
    (c.is_free.ensures.0 c.if-not-is_free.false)

pub returns : goal.returns
returns c =
    let own = c.args.self.now.list.items in
    let all = no_item_at c.deref-theirs-items.ensures.value c.loop-at-test.false in (
      λ t. each_block-done (IsApartAt own c.args.array) (apart-none own c.args.array) c.args.row.now c.loop-at.at all
          c.loop-at.invariant,
      λ h. refl,
    )
