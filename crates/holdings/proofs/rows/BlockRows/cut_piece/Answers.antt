use Rattle.std.proofs.Common.{◌≡◌, ◌/◌, ◌%◌, ◌∙◌, Some, ap, arith, is_some, subst, sym, IsSome, refl}
use Rattle.sections.specs.Translation.{window as window_of}
use Rattle.blocks.specs.Blocks.{owned_at}
use Rattle.blocks.specs.Offsets.{HasAll}
use Rattle.blocks.specs.declared.block.Block.TheVariants.{Empty}
use Rattle.holdings.specs.Rows.{block_of}
use Rattle.holdings.proofs.CarvingLemmas.{cut_keeps, cut_movable, has_copies, has_cut, held-same, only_whole, piece_block, piece_owned, replaced-here, replaced-twice, whole_only}
use Rattle.holdings.proofs.rows.BlockRows.cut_piece.Goals as goal

pub swap-mine-requires : goal.swap-mine-requires
swap-mine-requires c =
    let own = c.args.self.now.list.items in
    let w = window_of c.args.piece in
    subst (λ n. IsSome (block_of own w.array n)) (sym c.block_number-number.ensures) (piece_block own w c.requires.piece c.requires.owned)

pub cut-cut-requires-clause-range : goal.cut-cut-requires-clause-range
cut-cut-requires-clause-range c =
    omega (arith, c.requires.piece.some, c.offsets-from.ensures.from, c.offsets-from.ensures.to)

pub cut-cut-requires-clause-places : goal.cut-cut-requires-clause-places
cut-cut-requires-clause-places c = omega (arith, c.requires.piece.block, c.offsets-from.ensures.to)

pub cut-cut-requires-clause-owned : goal.cut-cut-requires-clause-owned
cut-cut-requires-clause-owned c =
    let own = c.args.self.now.list.items in
    let w = window_of c.args.piece in
    let r = c.swap-mine.result in
    let is : block_of own w.array (w.at / 256) ≡ Some r = ap (block_of own w.array) (sym c.block_number-number.ensures) ∙ c.swap-mine.ensures.old in
    subst (λ f. HasAll f c.offsets-from.result.1 (owned_at r)) (sym c.offsets-from.ensures.from)
    (subst (λ t. HasAll (w.at % 256) t (owned_at r)) (sym c.offsets-from.ensures.to)
    (piece_owned own w r c.requires.piece c.requires.owned is))

pub swap-requires : goal.swap-requires
swap-requires c =
    ap is_some (replaced-here c.args.piece.array.number c.block_number-number.result Empty c.args.self.now.list.items
    c.swap-mine.new.self.list.items c.swap-mine.ensures.new)

pub swap-requires-2 : goal.swap-requires-2
swap-requires-2 c =
    ap is_some (replaced-here c.args.piece.array.number c.block_number-number.result Empty c.make_room.new.self.list.items
    c.swap-theirs.new.self.list.items c.swap-theirs.ensures.new)

pub returns-in_err-cut-clause-same : goal.returns-in_err-cut-clause-same
returns-in_err-cut-clause-same c =
    let own = c.args.self.now.list.items in
    let a = c.args.piece.array.number in
    let n = c.block_number-number.result in
    held-same a n c.swap-mine.result c.cut-cut.new.self own c.swap.new.self.list.items c.swap-mine.ensures.old
    (replaced-twice a n Empty c.cut-cut.new.self own c.swap-mine.new.self.list.items c.swap.new.self.list.items c.swap-mine.ensures.new c.swap.ensures.new)
    c.cut-cut.ensures.same

pub returns : goal.returns
returns c =
    let own = c.args.self.now.list.items in
    let new_own = c.swap.new.self.list.items in
    let others = c.args.others.now.list.items in
    let new_others = c.swap-2.new.self.list.items in
    let w = window_of c.args.piece in
    let a = c.args.piece.array.number in
    let n = c.block_number-number.result in
    let r = c.swap-mine.result in
    let s = c.cut-cut.new.self in
    let x = c.in_ok-cut.cut in
    let at = c.block_number-number.ensures in
    let h = has_cut own c.swap-mine.new.self.list.items new_own w n c.offsets-from.result.0 c.offsets-from.result.1
    r s Empty x at c.offsets-from.ensures.from c.offsets-from.ensures.to c.swap-mine.ensures.old c.swap-mine.ensures.new c.swap.ensures.new
    c.cut-cut.ensures.same c.in_ok-cut.ensures.ready c.in_ok-cut.ensures.moved c.in_ok-cut.ensures.counted
    c.cut-cut.ensures.keeps in
    let k = has_copies own others c.make_room.new.self.list.items c.swap-theirs.new.self.list.items new_others w n
    c.offsets-from.result.0 c.offsets-from.result.1 r c.swap-theirs.result c.cut-cut.new.into Empty x at c.offsets-from.ensures.from
    c.offsets-from.ensures.to c.requires.piece.block c.make_room.ensures.widens c.swap-theirs.ensures.old c.swap-theirs.ensures.new
    c.swap-2.ensures.new h.there c.in_ok-cut.ensures.taken in
    let owned = piece_owned own w r c.requires.piece c.requires.owned h.there in
    record {
      same = held-same a n r s own new_own c.swap-mine.ensures.old
          (replaced-twice a n Empty s own c.swap-mine.new.self.list.items new_own c.swap-mine.ensures.new c.swap.ensures.new)
          c.cut-cut.ensures.same;
      movable = cut_movable own others new_own new_others w r s (record { piece = c.args.piece; cut = x }) refl h k c.requires.piece c.requires.within c.requires.clear;
      keeps = λ d clear n. cut_keeps own others new_own new_others w r s x h k c.requires.piece owned d clear n;
      taken = k.taken;
      moved = λ whole. h.moved (whole_only own w r h.there whole);
      counted = λ never. h.counted (λ only. never (only_whole own w r h.there only));
    }
