use Rattle.std.proofs.Common.{ap, sym, ◌∙◌, rules, w64, FitsSigned}
use Rattle.std.proofs.lemmas.Int.{to_z-of_z}
use Rattle.std.proofs.lemmas.Option.{IfSome_then}
use Rattle.types.specs.Translation.{environment, number as number_of}
use Rattle.types.specs.Value.{number, operate}
use Rattle.statement_steps.proofs.Pairs.{pair}
use Rattle.statement_steps.proofs.quick.wide_operand.Goals as goal

pub returns-in_ok-right-in-Chain : goal.returns-in_ok-right-in-Chain
returns-in_ok-right-in-Chain g c =
    let env = environment c.args.environment.now in let read = g.P.Places.numbers c.args.places.now in
    let link = c.in_ok-link-in-Chain.link.now in
    let left = c.in_ok-left-in-Chain.left in let right = c.in_ok-right-in-Chain.right in
    let left_fits : FitsSigned w64 left = search rules in
    let right_fits : FitsSigned w64 right = search rules in
    IfSome_then c.multiplied.result c.multiplied.ensures (λ v is.
    ap (λ n. number env read (number_of n)) c.in-Chain.is
    ∙ pair env read c.in-Chain.first c.in-Chain.rest link left right v
    (sym c.as_slice.ensures.value ∙ c.in_ok-link-in-Chain.ensures)
    (ap (λ n. number env read (number_of n)) (sym c.deref.ensures) ∙ c.in_ok-left-in-Chain.ensures)
    c.in_ok-right-in-Chain.ensures
    (ap (λ x. operate link.operator x right) (sym (to_z-of_z w64 left left_fits))
    ∙ ap (operate link.operator _) (sym (to_z-of_z w64 right right_fits)) ∙ is))
