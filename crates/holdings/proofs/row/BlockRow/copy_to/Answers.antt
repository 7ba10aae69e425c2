use Rattle.std.proofs.Common.{◌≡◌, ◌≤◌, ◌<◌, ◌+◌, ◌*◌, ℕ, List, Some, Option, ◌-◌, drop, length, get_or, option_map, pos, unwrap_or, refl, sym, ap, ◌∙◌, arith, subst}
use Rattle.std.proofs.lemmas.List.{length-drop, length-take-le}
use Rattle.std.specs.List.{slice_range}
use Rattle.blocks.specs.Held.{Held, number_of}
use Rattle.blocks.specs.declared.block.Block.{Block}
use Rattle.blocks.proofs.RowLemmas.{row_from-in}
use Rattle.holdings.specs.Rows.{block_in}
use Rattle.holdings.proofs.CopyingLemmas.{IsCopied, copied-more, copied-past}
use Rattle.holdings.proofs.MakingLemmas.{row_to-begun, row_to-done}
use Rattle.holdings.proofs.row.BlockRow.copy_to.Goals as goal
use Rattle.holdings.proofs.row.BlockRow.copy_to.Goals.{then-from-to, else-from-to}

pub loop-at-init : goal.loop-at-init
loop-at-init c = (
  refl,
  λ k lt. sym (ap (λ (o : Option Held). unwrap_or (option_map number_of o) (get_or c.args.row.now k (pos 0))) (row_to-begun c.args.self.now k)),
)

pub loop-at-preserved : goal.loop-at-preserved
loop-at-preserved c =
    let s = c.args.self.now in
    let n = c.loop-at.at in
    let first = c.args.row.now in
    let now = c.loop-at.row in
    let to = c.min-to.result in
    let inv = c.loop-at.invariant in
    let b = c.block-item.result in
    let from : ℕ = (s.first + n) * 256 in
    let lt : n < length s.blocks.items = subst (λ (l : List Block). n < length l) c.deref-block-items.ensures.value c.loop-at-test.true in
    let item : b ≡ get_or s.blocks.items n b = c.block-item.is ∙ ap (λ l. get_or l n b) c.deref-block-items.ensures.value in
    let back : s.first + n - s.first ≡ n = omega arith in
    let is : block_in s (s.first + n) ≡ Some b =
    row_from-in s.first s.blocks.items (s.first + n) b (omega arith) (omega (arith, lt)) ∙ ap (λ j. Some (get_or s.blocks.items j b)) back ∙ ap Some (sym item) in
    elim c.if-from-to.branch [
      | then-from-to w ↦ (let part = w.copy_to.new.numbers in
          let short : length (slice_range now from to) ≡ to - from =
          length-take-le (to - from) (drop from now) (omega (arith, length-drop from now, c.min-to.ensures)) in
          let same : length part ≡ to - from = w.copy_to.auto.numbers ∙ short in
          let more = copied-more s n b first now part to inv.1 inv.0 is c.min-to.ensures w.if-from-to.true same
          (λ k h. w.copy_to.ensures k (omega (arith, h, short))) in
          (c.if-from-to.auto.row ∙ inv.0, subst (IsCopied s (n + 1) first) (sym w.row-is) more))
      | else-from-to w ↦ (
        c.if-from-to.auto.row ∙ inv.0,
        subst (IsCopied s (n + 1) first) (sym w.row-is)
            (copied-past s n first now inv.1 (omega (arith, w.if-from-to.false, c.min-to.ensures, inv.0))),
      )
    ]

pub returns : goal.returns
returns c =
    let s = c.args.self.now in
    let n = c.loop-at.at in
    let all : length s.blocks.items ≤ n = subst (λ (l : List _). length l ≤ n) c.deref-block-items.ensures.value c.loop-at-test.false in
    λ k lt. c.loop-at.invariant.1 k lt
    ∙ ap (λ (o : Option Held). unwrap_or (option_map number_of o) (get_or c.args.row.now k (pos 0))) (row_to-done s n k all)
