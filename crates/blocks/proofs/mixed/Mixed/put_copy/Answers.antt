use Rattle.blocks.specs.declared.kind.HeldAs.TheVariants.{Copied}
use Rattle.blocks.proofs.KindLemmas.{held_row-put}
use Rattle.blocks.proofs.mixed.Mixed.put_copy.Goals as goal

pub returns-clause-held : goal.returns-clause-held
returns-clause-held c = λ k.
    let m = c.args.self.now in
    held_row-put m.numbers.first m.kinds.items m.numbers.list.items c.args.offset Copied c.args.value m.paired
    c.requires c.ranges.value k
