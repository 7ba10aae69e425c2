use Rattle.std.proofs.Common.{Option, ◌+◌, ◌-◌, ◌/◌, ◌%◌, ◌<◌, ◌≤◌, ◌∙◌, ◌≡◌, ap, arith, get_or, length, rules, sym, w64, FitsSigned}
use Rattle.std.proofs.lemmas.Int.{to_z-of_z}
use Rattle.std.specs.Prelude.{ℤ, option_map, pos, unwrap_or}
use Rattle.blocks.specs.Held.{number_of}
use Rattle.blocks.specs.declared.block.Block.{Block}
use Rattle.holdings.specs.Rows.{held_of}
use Rattle.holdings.proofs.WritingLemmas.{block_in-item}
use Rattle.holdings.proofs.row.BlockRow.number_at.Goals as goal

pub returns : goal.returns
returns c =
    let s = c.args.self.now in let i = c.args.at / 256 in let n = s.first + i in
    let x = c.index-block.result.now in let v = c.unwrap_or.result in
    let fits : FitsSigned w64 v = search rules in
    let low : s.first ≤ n = omega arith in
    let high : n < s.first + length s.blocks.items = omega (arith, c.requires) in
    let back : i ≡ n - s.first = omega arith in
    let there = block_in-item s n x low high (c.index-block.ensures ∙ ap (λ j. get_or s.blocks.items j x) back) in
    to_z-of_z w64 v fits
    ∙ c.unwrap_or.ensures
    ∙ ap (λ (o : Option ℤ). unwrap_or o (pos 0)) c.number.ensures
    ∙ ap (λ (o : Option Block). unwrap_or (option_map number_of (held_of o (c.args.at % 256))) (pos 0)) (sym there)
