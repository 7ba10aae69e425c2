use Rattle.std.proofs.Common.{◌≡◌, ◌+◌, List, length, arith, ap, sym, ◌∙◌, subst}
use Rattle.std.proofs.lemmas.List.{length-append}
use Rattle.blocks.specs.Numbers.{row_from}
use Rattle.blocks.specs.declared.block.Block.{Block}
use Rattle.holdings.specs.Rows.{IsAsBefore, block_in}
use Rattle.holdings.proofs.WideningLemmas.{before-append, empty-row, row-there}
use Rattle.holdings.proofs.row.BlockRow.widen.Goals as goal

pub returns-clause-room : goal.returns-clause-room
returns-clause-room c =
    let es = c.in_ok-blocks.blocks.items in
    let xs = c.args.self.now.blocks.items in
    let long : length c.append.new.self.items ≡ length es + length xs = ap length c.in_ok-append.ensures.items ∙ length-append es xs in
    row-there c.args.number c.append.new.self.items c.args.number (omega arith) (omega (arith, long, c.requires.some))

pub returns-clause-before : goal.returns-clause-before
returns-clause-before c =
    let s = c.args.self.now in
    let es = c.in_ok-blocks.blocks.items in
    let at : c.args.number + length es ≡ s.first = omega (arith, c.in_ok-blocks.ensures.long, c.requires.low) in
    λ b. subst (λ (l : List Block). IsAsBefore (block_in s b) (row_from c.args.number l b)) (sym c.in_ok-append.ensures.items)
    (before-append s.first c.args.number es s.blocks.items b at (empty-row c.args.number es c.in_ok-blocks.ensures.empty))
