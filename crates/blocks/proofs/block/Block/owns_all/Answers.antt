use Rattle.std.proofs.lemmas.Bool.{le-leb, leb-true}
use Rattle.blocks.proofs.BlockLemmas.{reach-owned, whole-owned}
use Rattle.blocks.proofs.block.Block.owns_all.Goals as goal

pub returns-else-from-to : goal.returns-else-from-to
returns-else-from-to c =
    let r = whole-owned c.args.self.now c.args.from c.args.to c.if-from-to.false c.in-WholeOwned.field-0 c.in-WholeOwned.is in
    (λ t. r.0 (leb-true _ _ t), λ all. le-leb c.args.to 256 (r.1 all))

pub returns-else-from-to-2 : goal.returns-else-from-to-2
returns-else-from-to-2 c =
    let r = reach-owned c.args.self.now c.deref.result.now c.args.from c.args.to c.if-from-to-2.false c.in-Owned.numbers c.deref.ensures c.in-Owned.is in
    (λ t. r.0 (c.reach_over.ensures.0 t), λ all. c.reach_over.ensures.1 (r.1 all))
