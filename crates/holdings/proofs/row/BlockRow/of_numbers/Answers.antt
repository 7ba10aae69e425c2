use Rattle.std.proofs.Common.{◌≡◌, ◌≤◌, ◌+◌, ◌-◌, ◌*◌, List, length, min, sym, arith, subst, slice_get}
use Rattle.std.specs.List.{slice_range}
use Rattle.std.specs.Prelude.{IfSome}
use Rattle.blocks.specs.declared.block.Block.{Block}
use Rattle.holdings.specs.Rows.{OwnsList}
use Rattle.holdings.proofs.MakingLemmas.{IsCutFrom, cut-all, cut-last, cut-more}
use Rattle.holdings.proofs.row.BlockRow.of_numbers.Goals as goal

pub next_block-requires-clause-last : goal.next_block-requires-clause-last
next_block-requires-clause-last c =
    let ns = c.args.numbers.now in
    let n = c.loop-at.at in
    let from = c.saturating_sub.result in
    let start : n * 256 ≤ length ns = omega (arith, c.div_ceil-count.ensures, c.loop-at-test.true) in
    let is : from ≡ n * 256 - 256 = c.saturating_sub.ensures in
    subst (λ (bs : List Block). IfSome (slice_get bs (length bs - 1)) (λ b. OwnsList b (slice_range ns from (n * 256))))
    (sym c.deref.ensures.value) (cut-last ns c.loop-at.blocks.items n from c.loop-at.invariant is start)

pub loop-at-preserved : goal.loop-at-preserved
loop-at-preserved c =
    let ns = c.args.numbers.now in
    let n = c.loop-at.at in
    let start : n * 256 ≤ length ns = omega (arith, c.div_ceil-count.ensures, c.loop-at-test.true) in
    let end : c.min-to.result ≡ min (length ns) (n * 256 + 256) = c.min-to.ensures in
    subst (λ (l : List Block). IsCutFrom ns l (n + 1)) (sym c.in_ok-push.ensures.items)
    (cut-more ns c.loop-at.blocks.items n c.min-to.result c.in_ok-block.block c.loop-at.invariant end start c.in_ok-block.ensures)

pub returns : goal.returns
returns c =
    let ns = c.args.numbers.now in
    let n = c.loop-at.at in
    let all : length ns ≤ n * 256 = omega (arith, c.div_ceil-count.ensures, c.loop-at-test.false) in
    λ k. cut-all ns c.loop-at.blocks.items n c.loop-at.invariant all k
