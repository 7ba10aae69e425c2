use Rattle.std.proofs.Common.{◌≡◌, ◌++◌, ◌∙◌, ℕ, List, OnOk, map, subst, sym, ap, append_assoc}
use Rattle.sections.specs.Translation.{section}
use Rattle.types.proofs.Chains.{number-Chain}
use Rattle.types.specs.Indexed.{indexed, indexed_links}
use Rattle.types.specs.Rows.{links}
use Rattle.types.specs.Translation.{number}
use Rattle.effects.proofs.own.+indexed.Goals as goal

pub add_indexed-returns-in_ok-add_indexed-in-Chain : goal.add_indexed-returns-in_ok-add_indexed-in-Chain
add_indexed-returns-in_ok-add_indexed-in-Chain t c =
    let old = map section c.args.found.now.items in
    let behind = indexed_links (links c.deref-in-Chain-2.result.now) in
    subst
    (λ (ss : List ℕ). OnOk c.add_indexed_behind.result (map section c.add_indexed_behind.new.found.items ≡ ss))
    (ap (λ (ss : List ℕ). ss ++ behind) c.in_ok-add_indexed-in-Chain.ensures
    ∙ append_assoc old (indexed (number c.deref-in-Chain.result.now)) behind
    ∙ ap (λ e. old ++ (indexed (number e) ++ behind)) c.deref-in-Chain.ensures
    ∙ ap (λ ls. old ++ (indexed (number c.in-Chain.first.value) ++ indexed_links (links ls))) c.deref-in-Chain-2.ensures.value
    ∙ ap (λ e. old ++ indexed e) (sym (ap number c.in-Chain.is ∙ number-Chain c.in-Chain.first c.in-Chain.rest)))
    c.add_indexed_behind.ensures
