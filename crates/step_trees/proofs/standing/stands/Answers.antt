use Rattle.std.proofs.Common.{◌≡◌, sym, ap, ◌∙◌, rules, List, map}
use Rattle.std.specs.Prelude.{ℤ, true, false}
use Rattle.types.proofs.Lists.{shown-held_by}
use Rattle.types.specs.Run.{Fault}
use Rattle.types.specs.Outcome.{Ending}
use Rattle.types.specs.Translation.{program, fault}
use Rattle.types.specs.Contents.{shown}
use Rattle.types.specs.Trees.{all_done, lines_of}
use Rattle.statement_steps.specs.Lists.{lists_of, contents_of}
use Rattle.step_trees.specs.Held.{tree_of, inside}
use Rattle.step_trees.specs.Places.{whole}
use Rattle.step_trees.specs.Standing.{stands_at}
use Rattle.step_trees.proofs.AlikeTrees.{alike-candidates}
use Rattle.step_trees.proofs.Standings.{stands-open, stands-ended}
use Rattle.step_trees.proofs.Places.{inside_going}
use Rattle.step_trees.proofs.standing.stands.Goals as goal

pub returns-then-not-is_done : goal.returns-then-not-is_done
returns-then-not-is_done c =
    let here = tree_of c.args.course.place.tree in
    let unfinished : all_done here ≡ false = search rules in
    stands-open (program c.args.plan.program.now) (whole c.args.course.place) (contents_of c.args.course.store) _
    (inside_going c.args.course.place.round.around.items here unfinished)
    (c.in_ok-candidates.ensures ∙ alike-candidates c.in_ok-all.ensures)

pub returns : goal.returns
returns c =
    let p = program c.args.plan.program.now in let t = tree_of c.args.course.place.tree in
    let ended : all_done t ≡ true = search rules in
    let same : whole c.args.course.place ≡ t = ap (λ xs. inside xs t) (c.requires.place.settled ended) in
    let left = c.in_ok-remains.ensures in
    let end : List (List ℤ) → List (List ℤ) → List Fault → Ending = λ arrays lines faults. record { arrays = arrays; lines = lines; faults = faults } in
    let arrays = lists_of c.args.course.store in let shown_is = sym (shown-held_by p.arrays arrays c.requires.store) in
    let lines = map (λ v. v.items) c.in_ok-remains.remains.lines.items in
    let faults = map fault c.in_ok-remains.remains.faults.items in
    let all = shown p.arrays (contents_of c.args.course.store) in
    stands-ended p t (contents_of c.args.course.store) (end arrays lines faults) ended
    (ap (λ (xs : List (List ℤ)). end xs lines faults) shown_is
    ∙ ap (λ (ls : List (List ℤ)). end all ls faults) left.lines
    ∙ ap (λ (fs : List Fault). end all (lines_of t) fs) left.faults)
    ∙ sym (ap (λ u. stands_at p u (contents_of c.args.course.store)) same)
