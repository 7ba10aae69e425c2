use Rattle.std.proofs.Common.{inl, inr}
use Rattle.std.proofs.lemmas.Bool.{le-leb, leb-true}
use Rattle.blocks.proofs.BlockLemmas.{reach-held, whole-held}
use Rattle.blocks.proofs.block.Block.holds_all.Goals as goal

pub returns-else-from-to : goal.returns-else-from-to
returns-else-from-to c =
    let b = c.args.self.now in
    elim c.in-WholeOwned.is [
      | inl w ↦ (let r = whole-held b c.args.from c.args.to c.if-from-to.false w.0 (inl w.1) in
          (λ t. r.0 (leb-true _ _ t), λ all. le-leb c.args.to 256 (r.1 all)))
      | inr w ↦ (let r = whole-held b c.args.from c.args.to c.if-from-to.false w.0 (inr w.1) in
          (λ t. r.0 (leb-true _ _ t), λ all. le-leb c.args.to 256 (r.1 all)))
    ]

pub returns-else-from-to-2 : goal.returns-else-from-to-2
returns-else-from-to-2 c =
    let r = reach-held c.args.self.now c.deref.result.now c.args.from c.args.to c.if-from-to-2.false c.in-Owned.numbers c.deref.ensures c.in-Owned.is in
    (λ t. r.0 (c.reach_over.ensures.0 t), λ all. c.reach_over.ensures.1 (r.1 all))
