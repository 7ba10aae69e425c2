use Rattle.std.proofs.Common.{◌≡◌, ◌++◌, ◌∙◌, ℕ, List, OnOk, map, subst, sym, ap}
use Rattle.sections.specs.Translation.{section}
use Rattle.types.proofs.Chains.{truth-Both, truth-Either}
use Rattle.types.specs.Indexed.{indexed_truth, indexed_truths}
use Rattle.types.specs.Rows.{truths}
use Rattle.types.specs.Translation.{truth}
use Rattle.effects.proofs.own.+indexed_in.Goals as goal

pub add_indexed_in-returns-in-Both : goal.add_indexed_in-returns-in-Both
add_indexed_in-returns-in-Both t c =
    subst
    (λ (ss : List ℕ). OnOk c.add_indexed_in_all.result (map section c.add_indexed_in_all.new.found.items ≡ map section c.args.found.now.items ++ ss))
    (ap (λ ts. indexed_truths (truths ts)) c.deref-in-Both.ensures.value
    ∙ ap indexed_truth (sym (ap truth c.in-Both.is ∙ truth-Both c.in-Both.operands)))
    c.add_indexed_in_all.ensures

pub add_indexed_in-returns-in-Either : goal.add_indexed_in-returns-in-Either
add_indexed_in-returns-in-Either t c =
    subst
    (λ (ss : List ℕ). OnOk c.add_indexed_in_all-in-Either.result
    (map section c.add_indexed_in_all-in-Either.new.found.items ≡ map section c.args.found.now.items ++ ss))
    (ap (λ ts. indexed_truths (truths ts)) c.deref-in-Either.ensures.value
    ∙ ap indexed_truth (sym (ap truth c.in-Either.is ∙ truth-Either c.in-Either.operands)))
    c.add_indexed_in_all-in-Either.ensures
