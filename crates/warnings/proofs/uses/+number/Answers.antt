use Rattle.std.proofs.Common.{ap, sym, ◌∙◌}
use Rattle.types.proofs.Chains.{number-Chain}
use Rattle.types.specs.Rows.{links}
use Rattle.types.specs.Translation.{number}
use Rattle.warnings.specs.Uses.{links_use, number_uses}
use Rattle.warnings.proofs.Bools.{or_of}
use Rattle.warnings.proofs.uses.+number.Goals as goal

pub number_uses-returns-in-Chain : goal.number_uses-returns-in-Chain
number_uses-returns-in-Chain t c =
    let x = c.args.thing in
    or_of _ _ _ _ (c.number_uses-in-Chain.ensures ∙ ap (λ e. number_uses x (number e)) c.deref-in-Chain.ensures)
    (c.rest_uses.ensures ∙ ap (λ ls. links_use x (links ls)) c.deref-in-Chain-2.ensures.value)
    ∙ sym (ap (number_uses x) (ap number c.in-Chain.is ∙ number-Chain c.in-Chain.first c.in-Chain.rest))
