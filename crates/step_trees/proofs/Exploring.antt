-- The result of choices, choice by choice.
use Rattle.std.proofs.Common.{◌≡◌, ℕ, ◌+◌, ◌≤◌, List, ◌∷◌, Some, sym, ap, ◌∙◌, subst}
use Rattle.std.specs.Prelude.{ℤ, Bool, true, false, if◌then◌else◌}
use Rattle.types.specs.Code.{Program}
use Rattle.types.specs.Contents.{Contents, FitsArrays, held_by}
use Rattle.types.specs.Outcome.{Ending, Ended}
use Rattle.types.specs.Translation.{program}
use Rattle.types.specs.Trees.{Tree, all_done, ready}
use Rattle.types.specs.TreeRuns.{Explored, Ends, Open, NoSuchChoice, tree_ending, told, goes_on, explored_from}
use Rattle.types.specs.TreeSteps.{step, first_tree}
use Rattle.statement_steps.specs.declared.thread.Plan.{Plan}
use Rattle.statement_steps.specs.Lists.{lists_of, contents_of}
use Rattle.step_trees.specs.declared.explore.Course.{Course}
use Rattle.step_trees.specs.Exploring.{IsHeld, Begins}
use Rattle.step_trees.specs.Places.{whole, IsPlace}
use Rattle.step_trees.specs.Windows.{TreeLies}
use Rattle.step_trees.proofs.LyingTrees.{first-lies}
use Rattle.step_trees.proofs.Steps.{others_stay}

-- what is stored at the start of a run of a program
pub held_first : (plan : Plan) (c : Course) (q : Program) (lists : List (List ℤ))
    → program plan.program.now ≡ q → IsPlace c.place → whole c.place ≡ first_tree (program plan.program.now)
    → lists_of c.store ≡ lists → FitsArrays q.arrays lists → IsHeld plan c
held_first plan c q lists code place start store fits =
    let p = program plan.program.now in
    record {
      place = place;
      windows = subst (TreeLies p) (sym start) (first-lies p);
      store =
          subst (FitsArrays p.arrays) (sym store)
          (subst (λ (r : Program). FitsArrays r.arrays lists) (sym code) fits);
    }

-- the result from the start of a run is the result of the whole run
pub from_beginning : (p : Program) (input : List (List ℤ)) (r : Plan × Course) → Begins p input r
    → (tell : Program → Tree → Contents → Explored)
    → tell (program r.0.program.now) (whole r.1.place) (contents_of r.1.store) ≡ tell p (first_tree p) (held_by input)
from_beginning p input r b tell =
    ap (λ q. tell q (whole r.1.place) (contents_of r.1.store)) b.code
    ∙ ap (λ t. tell p t (contents_of r.1.store)) b.tree ∙ ap (tell p (first_tree p)) b.store

module _ (p : Program) (t : Tree) (a : Contents) where
  pub told-open : (n : ℕ) → all_done t ≡ false → n ≡ ready t → Open n ≡ told p t a
  told-open n e f =
      ap Open f ∙ sym (ap (λ (z : Bool). if z then Ends (Ended (tree_ending p t a)) else Open (ready t)) e)

  pub told-ends : (end : Ending) → all_done t ≡ true → end ≡ tree_ending p t a → Ends (Ended end) ≡ told p t a
  told-ends end e f =
      ap (λ x. Ends (Ended x)) f ∙ sym (ap (λ (z : Bool). if z then Ends (Ended (tree_ending p t a)) else Open (ready t)) e)

  pub misses : (n c : ℕ) (cs : List ℕ) → ready t ≤ c → explored_from p n (c ∷ cs) t a ≡ NoSuchChoice n
  misses n c cs h = ap (goes_on n (explored_from p (n + 1) cs)) (others_stay p c t a h)

  pub goes-on : (n c : ℕ) (cs : List ℕ) (u : Tree) (b : Contents) → step p c t a ≡ Some (u, b)
      → explored_from p n (c ∷ cs) t a ≡ explored_from p (n + 1) cs u b
  goes-on n c cs u b e = ap (goes_on n (explored_from p (n + 1) cs)) e
