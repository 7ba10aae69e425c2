use Rattle.std.proofs.Common.{ap, sym, ◌∙◌, rules, w64, FitsSigned}
use Rattle.std.proofs.lemmas.Int.{to_z-of_z}
use Rattle.types.specs.Translation.{environment, number as number_of}
use Rattle.types.specs.Rows.{links as links_of}
use Rattle.types.specs.Value.{number, links, then_try}
use Rattle.types.proofs.Chains.{number-Chain}
use Rattle.types.proofs.value.+value.Goals as goal

pub number_value-returns-in_ok-value-in-Chain : goal.number_value-returns-in_ok-value-in-Chain
number_value-returns-in_ok-value-in-Chain g t c =
    let env = environment c.args.environment.now in let read = g.P.Places.numbers c.args.places.now in
    let first = c.in_ok-value-in-Chain.value in
    let fits : FitsSigned w64 first = search rules in
    c.chain_value.ensures
    ∙ ap (links env read (links_of c.deref-in-Chain-2.result.now)) (to_z-of_z w64 first fits)
    ∙ ap (λ rest. links env read (links_of rest) first) c.deref-in-Chain-2.ensures.value
    ∙ ap (λ r. then_try r (links env read (links_of c.in-Chain.rest.items)))
    (c.in_ok-value-in-Chain.ensures ∙ ap (λ e. number env read (number_of e)) c.deref-in-Chain.ensures)
    ∙ ap (number env read) (sym (ap number_of c.in-Chain.is ∙ number-Chain c.in-Chain.first c.in-Chain.rest))
