use Rattle.std.proofs.Common.{arith, map, refl}
use Rattle.sections.specs.Covers.{has}
use Rattle.sections.specs.Translation.{window as window_of}
use Rattle.holdings.proofs.JustLemmas.{RowStandsIn, item-row_stands, places-row_stands, row_stands-item, rows_stand-done}
use Rattle.holdings.proofs.RoomLemmas.{so_far-more}
use Rattle.holdings.proofs.WritingLemmas.{item_at, no_item_at}
use Rattle.holdings.proofs.rows.BlockRows.owns_only.Goals as goal

pub loop-array-init : goal.loop-array-init
loop-array-init c = λ i lt. absurd (omega (arith, lt))

pub returns-then-not-owns_only : goal.returns-then-not-owns_only
returns-then-not-owns_only c =
    let rs = c.args.self.now.list.items in
    let set = has (map window_of c.args.windows.now) in
    let n = c.loop-array.array in
    let at = item_at c.deref-row-items.ensures.value c.loop-array-test.true c.row-item.is in (
      λ t. absurd (cc),
      λ lies. absurd (let e = c.owns_only.ensures.1 (item-row_stands rs set n _ at.0 at.1 (places-row_stands rs set n lies)) in cc),
    )

pub loop-array-preserved : goal.loop-array-preserved
loop-array-preserved c =
    let rs = c.args.self.now.list.items in
    let set = has (map window_of c.args.windows.now) in
    let n = c.loop-array.array in
    let at = item_at c.deref-row-items.ensures.value c.loop-array-test.true c.row-item.is in
    so_far-more (RowStandsIn rs set) n c.loop-array.invariant (row_stands-item rs set n _ at.0 at.1 (c.owns_only.ensures.0 c.if-not-owns_only.false))

pub returns : goal.returns
returns c =
    let all = no_item_at c.deref-row-items.ensures.value c.loop-array-test.false in (
      λ t. rows_stand-done c.args.self.now.list.items (has (map window_of c.args.windows.now)) c.loop-array.array all c.loop-array.invariant,
      λ h. refl,
    )
