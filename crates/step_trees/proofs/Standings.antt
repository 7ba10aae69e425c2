-- Where a run stands, choice by choice; and the tasks of a leaf and of a tree that may step.
use Rattle.std.proofs.Common.{◌≡◌, ℕ, ◌+◌, ◌≤◌, List, [], ◌∷◌, ◌++◌, Some, refl, sym, ap, ◌∙◌}
use Rattle.std.specs.Prelude.{ℤ, Bool, true, false, if◌then◌else◌}
use Rattle.types.specs.Code.{Program}
use Rattle.types.specs.Contents.{Contents, held_by}
use Rattle.types.specs.Outcome.{Ending, Ended}
use Rattle.types.specs.Translation.{program}
use Rattle.types.specs.Trees.{Leaf, Tree, all_done, ready}
use Rattle.types.specs.TreeRuns.{tree_ending}
use Rattle.types.specs.TreeSteps.{step, first_tree}
use Rattle.statement_steps.specs.declared.thread.Plan.{Plan}
use Rattle.statement_steps.specs.Lists.{contents_of}
use Rattle.step_trees.specs.declared.explore.Course.{Course}
use Rattle.step_trees.specs.declared.rest.RestOfBlock.{RestOfBlock}
use Rattle.step_trees.specs.declared.rest.RestOfBlock.TheVariants.{Block, Turns}
use Rattle.step_trees.specs.Exploring.{Begins}
use Rattle.step_trees.specs.Places.{whole}
use Rattle.step_trees.specs.Standing.{Candidate, candidates, candidates_by, HasEnded, MayStep, Misses, stands_at, stands_on, standing_from}
use Rattle.step_trees.specs.Translation.{block, blocks, label_of}
use Rattle.types.specs.Trees.{append}
use Rattle.step_trees.proofs.Rests.{blocks-push}
use Rattle.step_trees.proofs.Steps.{others_stay}

-- the next statement is in the block on top
pub candidates-top : (bs : List RestOfBlock) (b : RestOfBlock) (k : Leaf)
    → candidates_by (blocks (bs ++ b ∷ [])) k ≡ record { path = k.path; label = label_of b } ∷ []
candidates-top bs b k = ap (λ c. candidates_by c k) (blocks-push bs b) ∙ by b
  where
    by : (b : RestOfBlock) → candidates_by (append (block b) (blocks bs)) k ≡ record { path = k.path; label = label_of b } ∷ []
    by (Block first others) = refl
    by (Turns t) = refl

-- what is told from the start of a run is told of the whole run
pub from_start : {A : Type 0} (p : Program) (input : List (List ℤ)) (r : Plan × Course) → Begins p input r
    → (tell : Program → Tree → Contents → A)
    → tell (program r.0.program.now) (whole r.1.place) (contents_of r.1.store) ≡ tell p (first_tree p) (held_by input)
from_start p input r b tell =
    ap (λ q. tell q (whole r.1.place) (contents_of r.1.store)) b.code
    ∙ ap (λ t. tell p t (contents_of r.1.store)) b.tree ∙ ap (tell p (first_tree p)) b.store

module _ (p : Program) (t : Tree) (a : Contents) where
  pub stands-open : (cs : List Candidate) → all_done t ≡ false → cs ≡ candidates t → MayStep cs ≡ stands_at p t a
  stands-open cs e f =
      ap MayStep f ∙ sym (ap (λ (z : Bool). if z then HasEnded (Ended (tree_ending p t a)) else MayStep (candidates t)) e)

  pub stands-ended : (end : Ending) → all_done t ≡ true → end ≡ tree_ending p t a
      → HasEnded (Ended end) ≡ stands_at p t a
  stands-ended end e f =
      ap (λ x. HasEnded (Ended x)) f
      ∙ sym (ap (λ (z : Bool). if z then HasEnded (Ended (tree_ending p t a)) else MayStep (candidates t)) e)

  pub stands-missing : (n c : ℕ) (cs : List ℕ) → ready t ≤ c → standing_from p n (c ∷ cs) t a ≡ Misses n
  stands-missing n c cs h = ap (stands_on n (standing_from p (n + 1) cs)) (others_stay p c t a h)

  pub stands-further : (n c : ℕ) (cs : List ℕ) (u : Tree) (b : Contents) → step p c t a ≡ Some (u, b)
      → standing_from p n (c ∷ cs) t a ≡ standing_from p (n + 1) cs u b
  stands-further n c cs u b e = ap (stands_on n (standing_from p (n + 1) cs)) e
