use Rattle.std.proofs.Common.{◌≡◌, ◌∙◌, ℕ, ◌+◌, ◌-◌, ◌≤◌, List, ap, ap₂, arith, length, replicate, rules, sym}
use Rattle.std.proofs.lemmas.List.{length-replicate, with_items_is}
use borrow.Rule.Slice.PartMut.{mid_len, mid_of, put_mid}
use Rattle.blocks.specs.declared.kind.HeldAs.{HeldAs}
use Rattle.blocks.specs.declared.kind.HeldAs.TheVariants.{Absent}
use Rattle.blocks.proofs.KindLemmas.{held_row, held_row-cleared}
use Rattle.blocks.proofs.RowLemmas.{length-mid}
use Rattle.blocks.proofs.mixed.Mixed.clear.Goals as goal

pub returns-then-low-high-clause-held : goal.returns-then-low-high-clause-held
returns-then-low-high-clause-held c = λ k.
    let m = c.args.self.now in
    let first = m.numbers.first in
    let kinds = m.kinds.items in let xs = m.numbers.list.items in
    let low = c.max-low.result in let high = c.min-high.result in
    let begins : low ≡ _ = c.max-low.ensures in
    let ends : high ≡ _ = c.min-high.ensures in
    let end = c.end.ensures in
    let some = c.if-low-high.true in
    let n : ℕ = high - first - (low - first) in
    let fits : low - first + n ≤ length kinds = omega (arith, begins, ends, end, some, m.paired) in
    let all = c.deref_mut.result.now in
    let part : length (mid_of (low - first) n all) ≡ n =
    mid_len (low - first) (high - first) all (omega (arith, ap length c.deref_mut.ensures.value, fits, begins, ends, some)) in
    let filled : c.fill.new.self ≡ replicate (length (mid_of (low - first) n all)) Absent = search rules in
    let cleared : put_mid (low - first) n all c.fill.new.self ≡ put_mid (low - first) n kinds (replicate n Absent) =
    ap₂ (put_mid (low - first) n) c.deref_mut.ensures.value (filled ∙ ap (λ (j : ℕ). replicate j Absent) part) in
    ap (λ (ks : List HeldAs). held_row first ks xs k)
    (with_items_is m.kinds _
    (ap length cleared ∙ length-mid (low - first) n kinds (replicate n Absent) (length-replicate n Absent) fits ∙ sym m.kinds.ok.0)
    ∙ cleared)
    ∙ held_row-cleared first kinds xs c.args.from c.args.to low n m.paired (omega (arith, begins)) (omega (arith, begins, ends, end, some))
    (omega (arith, begins)) (omega (arith, begins, ends, some))
    (λ j there high from to. (omega (arith, begins, there, from), omega (arith, begins, ends, end, some, high, to))) k
