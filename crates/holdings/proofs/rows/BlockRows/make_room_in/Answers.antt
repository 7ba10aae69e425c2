use Rattle.std.proofs.Common.{◌∙◌, ap, is_some}
use Rattle.std.proofs.lemmas.Result.{on_ok_weaker}
use Rattle.blocks.specs.declared.block.Block.TheVariants.{Empty}
use Rattle.holdings.proofs.CarvingLemmas.{held-same, replaced-here, replaced-twice}
use Rattle.holdings.proofs.RoomLemmas.{room-elsewhere, room-from, room-widened}
use Rattle.holdings.proofs.WritingLemmas.{held-widened}
use Rattle.holdings.proofs.rows.BlockRows.make_room_in.Goals as goal

pub returns-in_err-make_room-in-Owned-clause-same : goal.returns-in_err-make_room-in-Owned-clause-same
returns-in_err-make_room-in-Owned-clause-same c =
    held-widened c.args.self.now.list.items c.make_room.new.self.list.items c.make_room.ensures.widens

pub returns-in_err-make_room-in-Owned-clause-keeps : goal.returns-in_err-make_room-in-Owned-clause-keeps
returns-in_err-make_room-in-Owned-clause-keeps c = λ i j b h e.
    room-widened c.args.self.now.list.items c.make_room.new.self.list.items c.make_room.ensures.widens i j b h

pub swap-requires : goal.swap-requires
swap-requires c =
    ap is_some (replaced-here c.args.array c.args.number Empty c.make_room.new.self.list.items c.swap-mine.new.self.list.items c.swap-mine.ensures.new)

pub returns-in_ok-make_room-in-Owned-clause-same : goal.returns-in_ok-make_room-in-Owned-clause-same
returns-in_ok-make_room-in-Owned-clause-same c =
    let wide = c.make_room.new.self.list.items in
    let mid = c.swap-mine.new.self.list.items in
    let new = c.swap.new.self.list.items in
    let s = c.make_room-room.new.self in
    held-same c.args.array c.args.number c.swap-mine.result s wide new c.swap-mine.ensures.old
    (replaced-twice c.args.array c.args.number Empty s wide mid new c.swap-mine.ensures.new c.swap.ensures.new) c.make_room-room.ensures.same
    ∙ held-widened c.args.self.now.list.items wide c.make_room.ensures.widens

pub returns-in_ok-make_room-in-Owned-clause-room : goal.returns-in_ok-make_room-in-Owned-clause-room
returns-in_ok-make_room-in-Owned-clause-room c =
    let new = c.swap.new.self.list.items in
    let s = c.make_room-room.new.self in
    on_ok_weaker c.make_room-room.result
    (λ can. room-from new c.args.array c.args.number s c.args.theirs.now
    (replaced-here c.args.array c.args.number s c.swap-mine.new.self.list.items new c.swap.ensures.new) can)
    c.make_room-room.ensures.room

pub returns-in_ok-make_room-in-Owned-clause-keeps : goal.returns-in_ok-make_room-in-Owned-clause-keeps
returns-in_ok-make_room-in-Owned-clause-keeps c = λ i j b h e.
    let wide = c.make_room.new.self.list.items in
    let mid = c.swap-mine.new.self.list.items in
    let new = c.swap.new.self.list.items in
    let s = c.make_room-room.new.self in
    room-elsewhere c.args.array c.args.number s wide new
    (replaced-twice c.args.array c.args.number Empty s wide mid new c.swap-mine.ensures.new c.swap.ensures.new) i j b e
    (room-widened c.args.self.now.list.items wide c.make_room.ensures.widens i j b h)
