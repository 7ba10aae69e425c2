use Rattle.std.proofs.Common.{◌≡◌, ◌^◌, ℕ, List, length, Bor, ap, ◌∙◌, sym, arith, rules}
use Rattle.std.proofs.lemmas.Option.{slice_get_within}
use Rattle.std.specs.Option.{option_copied}
use Rattle.std.specs.Prelude.{Option, Some, None, slice_get}
use Rattle.effects.proofs.HasLabels.{label_within}
use Rattle.effects.specs.declared.label_set.LabelSet.{LabelSet}
use Rattle.parallel_relation.specs.Rows.{rows_of}
use Rattle.parallel_relation.proofs.ListLemmas.{place_next, place_ends, past_rows}
use Rattle.parallel_relation.proofs.pairs.PairListIterator.next.Goals as goal

pub returns-in-Some-next_in-clause-steps : goal.returns-in-Some-next_in-clause-steps
returns-in-Some-next_in-clause-steps c =
    let list = c.loop-row.self in
    let rows = rows_of list.pairs.now.rows in
    let row = c.in-Some.row.now in
    let there : slice_get rows list.first ≡ Some row = sym c.get.ensures ∙ ap (λ (o : Option (Bor LabelSet)). option_copied o) c.in-Some.is in
    let z = c.in-Some-next_in.second in
    let h = c.in-Some-next_in.ensures in
    sym c.loop-row.invariant
    ∙ place_next (2 ^ 32) rows list.first list.second z row there h.0.0 (label_within row z h.0.1) h.0.1 (λ l a k. h.1 l (a, k))

pub returns-in-Some-next_in-clause-goes : goal.returns-in-Some-next_in-clause-goes
returns-in-Some-next_in-clause-goes c =
    let fewer = ap (λ (ms : List (ℕ × ℕ)). length ms) (returns-in-Some-next_in-clause-steps c) in
    record { on = λ _. (tt, tt, omega (arith, fewer)); keeps = tt; rests = λ _. tt }

pub overflow_add-self-in-None : goal.overflow_add-self-in-None
overflow_add-self-in-None c =
    let there = sym c.get.ensures ∙ ap (λ (o : Option (Bor LabelSet)). option_copied o) c.in-Some.is in
    let within = slice_get_within (rows_of c.loop-row.self.pairs.now.rows) c.loop-row.self.first c.in-Some.row.now there in
    omega (arith, within, c.loop-row.self.pairs.now.rows.within)

pub loop-row-smaller : goal.loop-row-smaller
loop-row-smaller c =
    let there = sym c.get.ensures ∙ ap (λ (o : Option (Bor LabelSet)). option_copied o) c.in-Some.is in
    omega (arith, slice_get_within (rows_of c.loop-row.self.pairs.now.rows) c.loop-row.self.first c.in-Some.row.now there)

pub loop-row-preserved : goal.loop-row-preserved
loop-row-preserved c =
    let list = c.loop-row.self in
    let rows = rows_of list.pairs.now.rows in
    let row = c.in-Some.row.now in
    let there : slice_get rows list.first ≡ Some row = sym c.get.ensures ∙ ap (λ (o : Option (Bor LabelSet)). option_copied o) c.in-Some.is in
    sym (place_ends (2 ^ 32) rows list.first list.second row there (λ l a k. c.in-None.ensures l (a, k))) ∙ c.loop-row.invariant

pub returns-clause-steps : goal.returns-clause-steps
returns-clause-steps c =
    let list = c.loop-row.self in
    let rows = rows_of list.pairs.now.rows in
    let past : slice_get rows list.first ≡ None = first_of (cc, search rules) in
    let none = past_rows (2 ^ 32) rows list.first list.first list.second past in
    (sym c.loop-row.invariant ∙ none, none)
