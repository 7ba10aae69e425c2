use Rattle.std.proofs.Common.{◌≡◌, ℕ, List, ◌++◌, IfOk, ap, subst, ◌∙◌}
use Rattle.std.specs.Prelude.{◌↔◌, flat_map}
use Rattle.sections.specs.Member.{Member}
use Rattle.sections.specs.Overlap.{root_of}
use Rattle.sections.specs.Tree.{origins_of}
use Rattle.types.specs.Translation.{codes, procedure}
use Rattle.effects.specs.Flows.{flows_of}
use Rattle.effects.specs.Outlines.{starts_in}
use Rattle.effects.specs.Roots.{root_in}
use Rattle.effects.specs.Starts.{starts_of}
use Rattle.effects.specs.SummaryRows.{HasRow}
use Rattle.effects.specs.Visits.{Visit, visits_in}
use Rattle.effects.specs.declared.starts.FirstLabel.{FirstLabel}
use Rattle.effects.specs.declared.summary.SummaryRow.{SummaryRow}
use Rattle.effects.specs.declared.visits.Standing.TheVariants.{Open}
use Rattle.effects.proofs.OutlineLemmas.{ok_anyway, visited}
use Rattle.effects.proofs.outlines.outline.Goals as goal

pub returns-clause-rows : goal.returns-clause-rows
returns-clause-rows c =
    let roots = c.in_ok-roots.roots in
    let g = c.args.procedure.now in
    let root : root_in roots ≡ root_of (origins_of g.sections) = λ t s. c.in_ok-roots.ensures s t in
    let visits =
    visited c.deref-3.ensures.value c.in_ok-visit_block.ensures c.new-visits.ensures.items
    c.deref.ensures.value in
    let starts : c.deref-4.result.now ≡ starts_in (procedure g) =
    c.deref-4.ensures.value ∙ c.in_ok-starts.ensures
    ∙ ap (λ (vs : List Visit). flat_map (starts_of (root_in roots)) vs) visits
    ∙ ap (λ (f : ℕ → ℕ). flat_map (starts_of f) (visits_in Open (codes g.body.items))) root in
    subst (λ (xs : List FirstLabel). IfOk c.collected.result (λ x. (r : SummaryRow) (l : ℕ)
    → HasRow x r l ↔ Member (record { row = r; label = l }) xs)) starts c.collected.ensures

pub returns-clause-flows : goal.returns-clause-flows
returns-clause-flows c =
    let g = c.args.procedure.now in
    let root : root_in c.in_ok-roots.roots ≡ root_of (origins_of g.sections) =
    λ t s. c.in_ok-roots.ensures s t in
    let visits =
    visited c.deref-2.ensures.value c.in_ok-visit_block.ensures c.new-visits.ensures.items
    c.deref.ensures.value in
    let flows = flows_of c.args.caller c.args.procedures in
    ok_anyway c.collected.result
    (c.in_ok-flow_visits.ensures
    ∙ ap (λ (vs : List Visit). c.args.flows.now.items ++ flat_map (flows (root_in c.in_ok-roots.roots)) vs)
    visits
    ∙ ap (λ (f : ℕ → ℕ). c.args.flows.now.items ++ flat_map (flows f) (visits_in Open (codes g.body.items))) root)
