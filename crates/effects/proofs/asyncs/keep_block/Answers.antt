use Rattle.std.proofs.Common.{◌≡◌, ◌++◌, ◌+◌, ◌∙◌, inl, inr, List, [], map, take, ap, sym, subst}
use Rattle.std.proofs.lemmas.List.{take_all}
use Rattle.sections.specs.Member.{Member}
use Rattle.types.specs.Code.{Async}
use Rattle.types.specs.Translation.{code, codes, program}
use Rattle.effects.specs.AsyncNeeds.{needs_at}
use Rattle.effects.specs.Statements.{Stands}
use Rattle.effects.specs.Visits.{visit, visits_in}
use Rattle.effects.specs.declared.visits.Standing.TheVariants.{Open}
use Rattle.effects.specs.declared.visits.Visit.{Visit as rVisit}
use Rattle.effects.proofs.AsyncLemmas.{IsSeen, is_seen, keeps_none, keeps_same, keeps_then, none_seen, seen_more, visit_at}
use Rattle.effects.proofs.StatementLemmas.{is_visited, visited}
use Rattle.effects.proofs.asyncs.keep_block.Goals as goal

pub keep-requires : goal.keep-requires
keep-requires c =
    let b = codes c.args.block.now in
    let xs = c.deref-visit-items.result.now in
    let found : map visit xs ≡ visits_in Open b =
    ap (map visit) c.deref-visit-items.ensures.value ∙ c.in_ok-visit_block.ensures
    ∙ ap (λ (ys : List rVisit). map visit ys ++ visits_in Open b) c.new-visits.ensures.items in
    let x = c.visit-item.result in
    record {
      sound = c.requires.sound;
      summaries = c.requires.summaries;
      there = c.requires.part _ _ (visited Open b (visit x)
          (subst (Member (visit x)) found (visit_at xs c.loop-visit.visit-index x c.loop-visit-test.true c.visit-item.is)));
    }

pub loop-visit-init : goal.loop-visit-init
loop-visit-init c = keeps_none (program c.args.code.now) (IsSeen []) (needs_at c.args.kept.now) none_seen

pub loop-visit-preserved : goal.loop-visit-preserved
loop-visit-preserved c =
    let xs = c.deref-visit-items.result.now in
    let i = c.loop-visit.visit-index in
    let x = c.visit-item.result in
    keeps_then (program c.args.code.now) (IsSeen (map visit (take i xs)))
    (λ l b. (x.statement.now.label ≡ l) × (code x.statement.now.kind ≡ Async b)) (IsSeen (map visit (take (i + 1) xs)))
    (needs_at c.args.kept.now) (needs_at c.loop-visit.kept) (needs_at c.keep.new.kept) c.loop-visit.invariant c.in_ok-keep.ensures
    (λ l b s. elim (seen_more xs i x c.loop-visit-test.true l b s) [
      | inl k ↦ inl k
      | inr k ↦ inr (subst (λ (y : rVisit). ((visit y).label ≡ l) × ((visit y).code ≡ Async b)) (sym c.visit-item.is) k)
    ])

pub returns : goal.returns
returns c =
    let b = codes c.args.block.now in
    let xs = c.deref-visit-items.result.now in
    let found : map visit xs ≡ visits_in Open b =
    ap (map visit) c.deref-visit-items.ensures.value ∙ c.in_ok-visit_block.ensures
    ∙ ap (λ (ys : List rVisit). map visit ys ++ visits_in Open b) c.new-visits.ensures.items in
    let all : visits_in Open b ≡ map visit (take c.loop-visit.visit-index xs) =
    sym found ∙ ap (map visit) (sym (take_all c.loop-visit.visit-index xs c.loop-visit-test.false)) in
    keeps_same (program c.args.code.now) (IsSeen (map visit (take c.loop-visit.visit-index xs))) (λ l d. Stands b l (Async d))
    (needs_at c.args.kept.now) (needs_at c.loop-visit.kept) c.loop-visit.invariant
    (λ l d st. is_seen (map visit (take c.loop-visit.visit-index xs)) (visits_in Open b) l d all (is_visited Open st))
