use Rattle.std.proofs.Common.{◌≡◌, ◌<◌, ◌≤◌, ◌∙◌, ◌+◌, List, length, get_or, ap, refl, subst}
use Rattle.std.specs.Prelude.{◌&&◌, nat_eq}
use Rattle.blocks.specs.declared.block.Block.{Block}
use Rattle.holdings.proofs.RoomLemmas.{row_room-begun, row_room-done, row_room-more}
use Rattle.holdings.proofs.rows.BlockRows.make_room_row.Goals as goal

pub loop-at-init : goal.loop-at-init
loop-at-init c = (refl, row_room-begun c.args.self.now.list.items c.args.array c.args.row.now, λ i j b h e. h)

pub loop-at-preserved : goal.loop-at-preserved
loop-at-preserved c =
    let r = c.args.row.now in
    let xs = r.blocks.items in
    let n = c.loop-at.at in
    let b = c.theirs-item.result in
    let inv = c.loop-at.invariant in
    let e = c.in_ok-make_room_in.ensures in
    let lt : n < length xs = subst (λ (l : List Block). n < length l) c.deref-theirs-items.ensures.value c.loop-at-test.true in
    let is : b ≡ get_or xs n b = c.theirs-item.is ∙ ap (λ l. get_or l n b) c.deref-theirs-items.ensures.value in (
      e.same ∙ inv.0,
      row_room-more c.loop-at.self.list.items c.make_room_in.new.self.list.items c.args.array r n b lt is inv.1
          (λ i j theirs h no. e.keeps i j theirs h no) e.room,
      λ i j x h no. e.keeps i j x (inv.2 i j x h no) (ap (λ t. t && nat_eq j (r.first + n)) no),
    )

pub returns-clause-room : goal.returns-clause-room
returns-clause-room c =
    let r = c.args.row.now in
    let n = c.loop-at.at in
    let all : length r.blocks.items ≤ n = subst (λ (l : List Block). length l ≤ n) c.deref-theirs-items.ensures.value c.loop-at-test.false in
    row_room-done c.loop-at.self.list.items c.args.array r n all c.loop-at.invariant.1

pub returns-clause-keeps : goal.returns-clause-keeps
returns-clause-keeps c = c.loop-at.invariant.2
