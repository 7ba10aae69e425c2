use Rattle.std.proofs.Common.{◌≡◌, ◌∙◌, ℕ, ◌+◌, ◌-◌, ◌<◌, ◌≤◌, List, ap, ap₂, arith, length, replicate, rules, sym}
use Rattle.std.proofs.lemmas.List.{length-replicate, with_items_is}
use Rattle.std.specs.Prelude.{ℤ}
use borrow.Rule.Slice.PartMut.{mid_len, mid_of, put_mid}
use Rattle.blocks.specs.declared.kind.HeldAs.{HeldAs}
use Rattle.blocks.specs.declared.kind.HeldAs.TheVariants.{Own}
use Rattle.blocks.proofs.BlockLemmas.{ReachOver-within, how_many-row}
use Rattle.blocks.proofs.KindLemmas.{held_row, held_row-row}
use Rattle.blocks.proofs.RowLemmas.{length-mid}
use Rattle.blocks.proofs.mixed.Mixed.take_row.Goals as goal

pub returns-then-count-eq0-clause-copied : goal.returns-then-count-eq0-clause-copied
returns-then-count-eq0-clause-copied c =
    let n = c.args.numbers.now in
    let none : length n.list.items ≡ 0 = omega (arith, c.len-count.ensures, n.list.ok.0, c.if-count-eq0.true) in
    sym (how_many-row n.first n.list.items 256 n.within ∙ none)

pub overflow_sub-at : goal.overflow_sub-at
overflow_sub-at c =
    let n = c.args.numbers.now in
    let some : 0 < length n.list.items = omega (arith, c.len-count.ensures, n.list.ok.0, c.if-count-eq0.false) in
    (ReachOver-within n c.args.self.now.numbers some c.requires).low

pub slice_bounds-copy_from_slice-end : goal.slice_bounds-copy_from_slice-end
slice_bounds-copy_from_slice-end c =
    let n = c.args.numbers.now in
    let some : 0 < length n.list.items = omega (arith, c.len-count.ensures, n.list.ok.0, c.if-count-eq0.false) in
    let reach = ReachOver-within n c.args.self.now.numbers some c.requires in
    omega (arith, reach.low, reach.high, c.len-count.ensures, n.list.ok.0, ap length c.deref_mut.ensures.value)

pub returns-clause-held : goal.returns-clause-held
returns-clause-held c = λ k.
    let m = c.args.self.now in let n = c.args.numbers.now in
    let first = m.numbers.first in
    let kinds = m.kinds.items in let xs = m.numbers.list.items in let ys = n.list.items in
    let at : ℕ = n.first - first in
    let end : ℕ = at + c.len-count.result in
    let count : ℕ = end - at in
    let some : 0 < length ys = omega (arith, c.len-count.ensures, n.list.ok.0, c.if-count-eq0.false) in
    let reach = ReachOver-within n m.numbers some c.requires in
    let long : length ys ≡ count = omega (arith, c.len-count.ensures, n.list.ok.0) in
    let fits : at + count ≤ length xs = omega (arith, reach.low, reach.high, long) in
    let room : at + count ≤ length kinds = omega (arith, fits, m.paired) in
    let copied : put_mid at count c.deref_mut.result.now c.copy_from_slice.new.self ≡ put_mid at count xs ys =
    ap₂ (put_mid at count) c.deref_mut.ensures.value (c.copy_from_slice.ensures.after ∙ c.deref.ensures.value) in
    let all = c.deref_mut-2.result.now in
    let part : length (mid_of at count all) ≡ count =
    mid_len at end all (omega (arith, ap length c.deref_mut-2.ensures.value, room)) in
    let filled : c.fill.new.self ≡ replicate (length (mid_of at count all)) Own = search rules in
    let owned : put_mid at count all c.fill.new.self ≡ put_mid at count kinds (replicate count Own) =
    ap₂ (put_mid at count) c.deref_mut-2.ensures.value (filled ∙ ap (λ (j : ℕ). replicate j Own) part) in
    ap₂ (λ (ks : List HeldAs) (zs : List ℤ). held_row first ks zs k)
    (with_items_is m.kinds _
    (ap length owned ∙ length-mid at count kinds (replicate count Own) (length-replicate count Own) room ∙ sym m.kinds.ok.0) ∙ owned)
    (with_items_is m.numbers.list _ (ap length copied ∙ length-mid at count xs ys long fits ∙ sym m.numbers.list.ok.0) ∙ copied)
    ∙ held_row-row first kinds xs n.first count ys m.paired long reach.low (omega (arith, fits, reach.low)) k

pub returns-clause-copied : goal.returns-clause-copied
returns-clause-copied c =
    let n = c.args.numbers.now in
    let long : c.len-count.result ≡ length n.list.items = omega (arith, c.len-count.ensures, n.list.ok.0) in
    long ∙ sym (how_many-row n.first n.list.items 256 n.within)
