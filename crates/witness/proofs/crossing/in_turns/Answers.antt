use Rattle.std.proofs.Common.{Global, Option, Vec, length, subst}
use Rattle.std.specs.Prelude.{true, false}
use Rattle.types.specs.Translation.{codes, program}
use Rattle.effects.specs.Translation.{access}
use Rattle.witness.specs.Known.{steps}
use Rattle.witness.specs.Least.{IsLeast, all_covered}
use Rattle.witness.specs.Meets.{WayInto}
use Rattle.witness.specs.declared.step.WayStep.{WayStep}
use Rattle.witness.proofs.Crossings.{none_pending, none_later}
use Rattle.witness.proofs.crossing.in_turns.Goals as goal

pub returns-in_default : goal.returns-in_default
returns-in_default c =
    let p = program c.args.pairing.now.code.now in
    let x = access c.args.pairing.now.first.now.access in let y = access c.args.pairing.now.second.now.access in
    let l = c.args.label in
    let s = c.args.pieces.now.section.number in
    let q = c.args.pieces.now.piece.number in
    let b = codes c.args.body.now in
    none_pending p l s q b x y
    (subst (λ (found : Option (Vec WayStep Global)). IsLeast length all_covered (λ way. WayInto p true l s q b way x) (steps found))
    c.in_default.is c.in_ok-pending.ensures)

pub returns-in_default-2 : goal.returns-in_default-2
returns-in_default-2 c =
    let p = program c.args.pairing.now.code.now in
    let x = access c.args.pairing.now.first.now.access in let y = access c.args.pairing.now.second.now.access in
    let l = c.args.label in
    let s = c.args.pieces.now.section.number in
    let q = c.args.pieces.now.piece.number in
    let b = codes c.args.body.now in
    none_later p l s q b x y
    (subst (λ (found : Option (Vec WayStep Global)). IsLeast length all_covered (λ way. WayInto p false l s q b way y) (steps found))
    c.in_default-2.is c.in_ok-later.ensures)
