use Rattle.std.proofs.Common.{◌∙◌, arith, refl}
use Rattle.holdings.proofs.RoomLemmas.{all_room-done, all_room-more}
use Rattle.holdings.proofs.WritingLemmas.{item_at, no_item_at}
use Rattle.holdings.proofs.rows.BlockRows.make_room_for.Goals as goal

pub loop-array-init : goal.loop-array-init
loop-array-init c = (refl, λ i j theirs lt there. absurd (omega (arith, lt)))

pub loop-array-preserved : goal.loop-array-preserved
loop-array-preserved c =
    let others = c.args.others.now.list.items in
    let n = c.loop-array.array in
    let at = item_at c.deref-row-items.ensures.value c.loop-array-test.true c.row-item.is in (
      c.in_ok-make_room_row.ensures.same ∙ c.loop-array.invariant.0,
      all_room-more c.loop-array.self.list.items c.make_room_row.new.self.list.items others n _ at.0 at.1
          c.loop-array.invariant.1 c.in_ok-make_room_row.ensures.keeps c.in_ok-make_room_row.ensures.room,
    )

pub returns-clause-room : goal.returns-clause-room
returns-clause-room c =
    let others = c.args.others.now.list.items in
    let n = c.loop-array.array in
    let all = no_item_at c.deref-row-items.ensures.value c.loop-array-test.false in
    all_room-done c.loop-array.self.list.items others n all c.loop-array.invariant.1
