use Rattle.std.proofs.Common.{Some, ap, ◌∙◌}
use Rattle.std.specs.Prelude.{nat_eq, if◌then◌else◌}
use Rattle.blocks.specs.declared.block.Block.{Block}
use Rattle.blocks.proofs.RowLemmas.{row_from-there}
use Rattle.holdings.specs.Rows.{block_in}
use Rattle.holdings.proofs.WideningLemmas.{some_not_none}
use Rattle.holdings.proofs.WritingLemmas.{row-set}
use Rattle.holdings.proofs.row.BlockRow.swap.Goals as goal

pub returns-clause-new : goal.returns-clause-new
returns-clause-new c = λ b.
    let s = c.args.self.now in
    let there = row_from-there s.first s.blocks.items c.args.number (some_not_none (block_in s c.args.number) c.requires) in
    row-set s.first s.blocks.items c.args.number c.replace.new.dest there.0 there.1 b
    ∙ ap (λ (x : Block). if nat_eq b c.args.number then Some x else block_in s b) c.replace.ensures.after
