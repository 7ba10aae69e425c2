use Rattle.std.proofs.Common.{arith, refl}
use Rattle.effects.specs.Effects.{past_split, renamed}
use Rattle.effects.specs.Translation.{access}
use Rattle.effects.proofs.FirstLabels.{firsts_of_longer, firsts_of_all, nothing_kept}
use Rattle.effects.proofs.firsts.Firsts.past_split.Goals as goal

pub loop-item-init : goal.loop-item-init
loop-item-init c = nothing_kept _ c.new-outside.ensures

pub loop-item-preserved : goal.loop-item-preserved
loop-item-preserved c =
    let out = past_split c.args.section.number c.args.left.number c.args.right.number in
    firsts_of_longer (λ x. renamed out (access x)) c.deref-item-items.result.now c.loop-item.item-index _ _ _ _ (omega arith)
    c.around.ensures c.loop-item.invariant c.in_ok-add.ensures

pub returns : goal.returns
returns c =
    let out = past_split c.args.section.number c.args.left.number c.args.right.number in
    firsts_of_all (λ x. renamed out (access x)) (renamed out) c.deref-item-items.result.now c.args.self.now.items.items
    c.loop-item.item-index _ (λ x. refl) (omega arith) c.deref-item-items.ensures.value c.loop-item.invariant
