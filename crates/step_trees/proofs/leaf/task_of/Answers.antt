use Rattle.std.proofs.Common.{◌≡◌, ℕ, [], ◌∷◌, length, ap, sym, ◌∙◌, arith}
use Rattle.std.proofs.lemmas.List.{nil_from_length}
use Rattle.step_trees.specs.Standing.{Candidate, candidates_by}
use Rattle.step_trees.specs.Translation.{blocks, leaf_of}
use Rattle.step_trees.proofs.Standings.{candidates-top}
use Rattle.step_trees.proofs.leaf.task_of.Goals as goal

pub returns-in-None : goal.returns-in-None
returns-in-None c =
    let none : length c.args.leaf.rest.items ≡ 0 = omega (arith, c.in-None.ensures.cases.0) in
    sym (ap (λ bs. candidates_by (blocks bs) (leaf_of c.args.leaf)) (nil_from_length c.args.leaf.rest.items none))

pub returns : goal.returns
returns c =
    let k = leaf_of c.args.leaf in
    ap (λ (l : ℕ). let one : Candidate = record { path = k.path; label = l } in one ∷ []) c.label.ensures
    ∙ sym (candidates-top c.pop.new.self.items c.in-Some.next k)
    ∙ sym (ap (λ bs. candidates_by (blocks bs) k) c.in-Some.ensures.items)
