use Rattle.std.proofs.Common.{◌≡◌, List, ◌∙◌, ap, sym, ◌⊎◌, length, take, get_or, subst}
use Rattle.std.specs.Prelude.{ℤ, pos}
use Rattle.blocks.specs.declared.block.Block.TheVariants.{WholeOwned, WholeShared}
use Rattle.blocks.proofs.BlockLemmas.{whole-first}
use Rattle.blocks.proofs.block.Block.copy_to.Goals as goal
use Rattle.blocks.proofs.block.Block.copy_to.Goals.{in-WholeOwned, in-WholeOwned-2}

pub returns : goal.returns
returns c =
    let b = c.args.self.now in
    let n = length c.args.numbers.now in
    let old = c.args.numbers.now in
    λ k lt. ap (λ (ns : List ℤ). get_or ns k (pos 0)) (c.copy_to.ensures ∙ ap (λ w. take n w.numbers) c.deref.ensures)
    ∙ whole-first b c.match-self.whole.now n k (get_or old k (pos 0))
    (elim c.match-self.branch [
      | in-WholeOwned w ↦ subst (λ x. (b ≡ WholeOwned x.now) ⊎ (b ≡ WholeShared x.now)) (sym w.whole-is) w.in-WholeOwned.is
      | in-WholeOwned-2 w ↦ subst (λ x. (b ≡ WholeOwned x.now) ⊎ (b ≡ WholeShared x.now)) (sym w.whole-is) w.in-WholeOwned.is
    ]) c.if-numbers-le-PLACES.true lt
