use Rattle.std.proofs.Common.{◌-◌, List, length, arith, ap, ◌∙◌, pos}
use Rattle.std.specs.Prelude.{ℕ, ℤ, slice_range}
use Rattle.blocks.specs.Numbers.{row_from}
use Rattle.blocks.specs.declared.numbers.Numbers.{Numbers}
use Rattle.blocks.proofs.RowLemmas.{length-range, row_from-range}
use Rattle.blocks.proofs.numbers.Numbers.part.Goals as goal

-- the numbers of a range, as a list
abbrev cut : Numbers → (from to : ℕ) → List ℤ → List ℤ
cut n from to xs = slice_range xs (from - n.first) (to - n.first)

pub invariant_of-numbers : goal.invariant_of-numbers
invariant_of-numbers c =
    let n = c.args.self.now in let from = c.args.from in let to = c.args.to in
    let is = c.in_ok-list.ensures.items ∙ ap (cut n from to) c.deref.ensures.value in
    let long = length-range n.list.items (from - n.first) (to - n.first) (omega (arith, c.requires.there.high)) in
    record { within = omega (arith, ap length is, long, n.within, c.requires.there.low, c.requires.there.high, c.requires.range) }

pub returns-clause-numbers : goal.returns-clause-numbers
returns-clause-numbers c =
    let n = c.args.self.now in let from = c.args.from in let to = c.args.to in
    λ k. ap (λ xs. row_from from xs k) (c.in_ok-list.ensures.items ∙ ap (cut n from to) c.deref.ensures.value)
    ∙ row_from-range n.first n.list.items from to (pos 0) c.requires.there.low c.requires.range c.requires.there.high k

pub returns-clause-copied : goal.returns-clause-copied
returns-clause-copied c =
    let n = c.args.self.now in let from = c.args.from in let to = c.args.to in
    let is = ap (cut n from to) c.deref.ensures.value in
    let long = length-range n.list.items (from - n.first) (to - n.first) (omega (arith, c.requires.there.high)) in
    omega (arith, c.len-copied.ensures, c.in_ok-list.ensures.len, ap length is, long, c.requires.there.low, c.requires.range)
