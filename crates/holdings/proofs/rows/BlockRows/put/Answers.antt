use Rattle.std.proofs.Common.{◌/◌, ◌%◌, Option, is_some, arith, ap, sym, ◌∙◌, w64, of_z, to_z}
use Rattle.std.proofs.lemmas.Int.{to_z-of_z}
use Rattle.std.proofs.lemmas.Result.{on_err_weaker, on_ok_weaker}
use Rattle.std.specs.Prelude.{ℤ}
use Rattle.sections.specs.Translation.{place as place_of}
use Rattle.blocks.specs.Held.{Held, Map, in_place_of, put}
use Rattle.blocks.specs.declared.block.Block.{Block}
use Rattle.holdings.specs.Rows.{block_in, held_in_list, held_of}
use Rattle.holdings.proofs.WritingLemmas.{block_of-item, block_of-within, held-widened, rows-alike, rows-written}
use Rattle.holdings.proofs.rows.BlockRows.put.Goals as goal

pub index_mut-row-requires : goal.index_mut-row-requires
index_mut-row-requires c =
    let lt = block_of-within c.make_room.new.self.list.items c.args.place.array.number (c.args.place.index / 256)
    c.in_ok-make_room.ensures.room in omega (arith, lt)

pub put-requires-clause-there : goal.put-requires-clause-there
put-requires-clause-there c =
    let rs = c.make_room.new.self.list.items in
    let a = c.args.place.array.number in
    let n = c.args.place.index / 256 in
    let lt = block_of-within rs a n c.in_ok-make_room.ensures.room in
    ap is_some (sym (block_of-item rs a c.index_mut-row.result.now lt c.index_mut-row.ensures.value n)) ∙ c.in_ok-make_room.ensures.room

pub returns-clause-written : goal.returns-clause-written
returns-clause-written c =
    let old = c.args.self.now.list.items in
    let rs = c.make_room.new.self.list.items in
    let p = place_of c.args.place in
    let r = c.index_mut-row.result.now in
    let n = c.args.place.index / 256 in
    let o = c.args.place.index % 256 in
    let lt = block_of-within rs p.array n c.in_ok-make_room.ensures.room in
    let there = block_of-item rs p.array r lt c.index_mut-row.ensures.value n in
    let v = to_z w64 (of_z w64 c.args.value) in
    on_ok_weaker c.put.result (λ w.
    rows-written rs p r c.put.new.self (in_place_of (held_of (block_in r n) o) v) lt c.index_mut-row.ensures.value w
    ∙ ap (λ (b : Option Block). put p (in_place_of (held_of b o) v) (held_in_list rs)) (sym there)
    ∙ ap (λ (m : Map Held). put p (in_place_of (m p) v) m) (held-widened old rs c.make_room.ensures.widens)
    ∙ ap (λ (z : ℤ). put p (in_place_of (held_in_list old p) z) (held_in_list old)) (to_z-of_z w64 c.args.value c.ranges.value))
    c.put.ensures.written

pub returns-clause-same : goal.returns-clause-same
returns-clause-same c =
    let rs = c.make_room.new.self.list.items in
    let a = c.args.place.array.number in
    let lt = block_of-within rs a (c.args.place.index / 256) c.in_ok-make_room.ensures.room in
    on_err_weaker c.put.result (λ w.
    rows-alike rs a c.index_mut-row.result.now c.put.new.self lt c.index_mut-row.ensures.value w
    ∙ held-widened c.args.self.now.list.items rs c.make_room.ensures.widens)
    c.put.ensures.same
