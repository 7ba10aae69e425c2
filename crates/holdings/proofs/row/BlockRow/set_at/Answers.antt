use Rattle.std.proofs.Common.{Option, IsSome, ◌+◌, ◌-◌, ◌/◌, ◌%◌, ◌<◌, ◌≤◌, ◌∙◌, ◌≡◌, ap, arith, get_or, length, set, subst, sym}
use Rattle.std.proofs.lemmas.Bool.{OnFalse_at, OnFalse_from, OnTrue_at, OnTrue_from}
use Rattle.std.specs.Bool.{OnTrue}
use Rattle.blocks.specs.Held.{owned_number}
use Rattle.blocks.specs.Numbers.{row_from}
use Rattle.blocks.specs.declared.block.Block.{Block}
use Rattle.holdings.specs.Rows.{held_of}
use Rattle.holdings.proofs.WritingLemmas.{block_in-item, row-alike, row-written}
use Rattle.holdings.proofs.row.BlockRow.set_at.Goals as goal

pub returns-clause-written : goal.returns-clause-written
returns-clause-written c =
    let s = c.args.self.now in let i = c.args.at / 256 in let n = s.first + i in
    let x = c.index_mut-block.result.now in let y = c.set.new.self in
    let low : s.first ≤ n = omega arith in
    let high : n < s.first + length s.blocks.items = omega (arith, c.requires) in
    let back : i ≡ n - s.first = omega arith in
    OnTrue_from c.set.result _ (λ yes b k.
    ap (λ j. held_of (row_from s.first (set s.blocks.items j y) b) k) back
    ∙ row-written s n x low high (c.index_mut-block.ensures.value ∙ ap (λ j. get_or s.blocks.items j x) back)
    y (c.args.at % 256) c.args.value c.ranges.value (OnTrue_at yes c.set.ensures.written) b k)

pub returns-clause-owned : goal.returns-clause-owned
returns-clause-owned c =
    let s = c.args.self.now in let i = c.args.at / 256 in let n = s.first + i in
    let x = c.index_mut-block.result.now in
    let low : s.first ≤ n = omega arith in
    let high : n < s.first + length s.blocks.items = omega (arith, c.requires) in
    let back : i ≡ n - s.first = omega arith in
    let there = block_in-item s n x low high (c.index_mut-block.ensures.value ∙ ap (λ j. get_or s.blocks.items j x) back) in
    subst (λ (o : Option Block). OnTrue c.set.result (IsSome (owned_number (held_of o (c.args.at % 256))))) (sym there) c.set.ensures.owned

pub returns-clause-same : goal.returns-clause-same
returns-clause-same c =
    let s = c.args.self.now in let i = c.args.at / 256 in let n = s.first + i in
    let x = c.index_mut-block.result.now in let y = c.set.new.self in
    let low : s.first ≤ n = omega arith in
    let high : n < s.first + length s.blocks.items = omega (arith, c.requires) in
    let back : i ≡ n - s.first = omega arith in
    OnFalse_from c.set.result _ (λ no b k.
    ap (λ j. held_of (row_from s.first (set s.blocks.items j y) b) k) back
    ∙ row-alike s n x low high (c.index_mut-block.ensures.value ∙ ap (λ j. get_or s.blocks.items j x) back) y (OnFalse_at no c.set.ensures.same) b k)
