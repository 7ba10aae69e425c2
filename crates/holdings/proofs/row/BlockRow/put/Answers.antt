use Rattle.std.proofs.Common.{Some, Option, ap, ◌∙◌, sym, w64, of_z, to_z}
use Rattle.std.proofs.lemmas.Int.{to_z-of_z}
use Rattle.std.proofs.lemmas.Result.{on_err_weaker, on_ok_weaker}
use Rattle.std.specs.Prelude.{ℤ, nat_eq, ◌&&◌, if◌then◌else◌}
use Rattle.blocks.specs.Blocks.{held_at}
use Rattle.blocks.specs.Held.{Held, in_place_of}
use Rattle.blocks.specs.declared.block.Block.{Block}
use Rattle.blocks.proofs.RowLemmas.{row_from-there}
use Rattle.holdings.specs.Rows.{block_in, held_of}
use Rattle.holdings.proofs.WideningLemmas.{some_not_none}
use Rattle.holdings.proofs.WritingLemmas.{row-item, held-written, held-alike}
use Rattle.holdings.proofs.row.BlockRow.put.Goals as goal

pub returns-clause-written : goal.returns-clause-written
returns-clause-written c =
    let s = c.args.self.now in
    let n = c.args.number in
    let o = c.args.offset in
    let x = c.index_mut-block.result.now in
    let at = row_from-there s.first s.blocks.items n (some_not_none (block_in s n) c.requires.there) in
    let there = row-item s.first s.blocks.items n x at.0 at.1 c.index_mut-block.ensures.value in
    let v = to_z w64 (of_z w64 c.args.value) in
    on_ok_weaker c.put.result (λ w b k.
    held-written s.first s.blocks.items n x c.put.new.self o (in_place_of (held_at x o) v) at.0 at.1 there w b k
    ∙ ap (λ (z : ℤ). if nat_eq b n && nat_eq o k then Some (in_place_of (held_at x o) z) else held_of (block_in s b) k)
    (to_z-of_z w64 c.args.value c.ranges.value)
    ∙ ap (λ (h : Option Held). if nat_eq b n && nat_eq o k then Some (in_place_of h c.args.value) else held_of (block_in s b) k)
    (sym (ap (λ (z : Option Block). held_of z o) there)))
    c.put.ensures.written

pub returns-clause-same : goal.returns-clause-same
returns-clause-same c =
    let s = c.args.self.now in
    let n = c.args.number in
    let x = c.index_mut-block.result.now in
    let at = row_from-there s.first s.blocks.items n (some_not_none (block_in s n) c.requires.there) in
    let there = row-item s.first s.blocks.items n x at.0 at.1 c.index_mut-block.ensures.value in
    on_err_weaker c.put.result (λ w b k. held-alike s.first s.blocks.items n x c.put.new.self at.0 at.1 there w b k)
    c.put.ensures.same
