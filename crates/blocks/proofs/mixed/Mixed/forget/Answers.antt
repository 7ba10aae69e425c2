use Rattle.blocks.specs.declared.kind.HeldAs.TheVariants.{Absent}
use Rattle.blocks.proofs.RowLemmas.{row_from-there}
use Rattle.blocks.proofs.KindLemmas.{held_row-kind}
use Rattle.blocks.proofs.mixed.Mixed.forget.Goals as goal

pub returns-clause-held : goal.returns-clause-held
returns-clause-held c = λ k.
    let m = c.args.self.now in
    let w = row_from-there m.numbers.first m.numbers.list.items c.args.offset c.requires in
    held_row-kind m.numbers.first m.kinds.items m.numbers.list.items c.args.offset Absent m.paired w.0 w.1 k
