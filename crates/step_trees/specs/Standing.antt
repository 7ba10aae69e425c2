-- Where a run stands after choices: its outcome, or the tasks that may step.
use Rattle.std.specs.Prelude.{ℕ, ℤ, ◌≡◌, ◌<◌, ◌+◌, List, [], ◌∷◌, ◌++◌, length, map, Option, None, Some}
use Rattle.std.specs.Prelude.{if◌then◌else◌}
use Rattle.types.specs.Code.{Codes, End, Then, Program}
use Rattle.types.specs.Contents.{Contents, held_by}
use Rattle.types.specs.Outcome.{Outcome, Ended}
use Rattle.types.specs.Translation.{outcome}
use Rattle.types.specs.Trees.{Leaf, Tree, Single, AndThen, Beside, all_done}
use Rattle.types.specs.TreeRuns.{tree_ending}
use Rattle.types.specs.TreeSteps.{step, first_tree}
use Rattle.step_trees.specs.declared.leaf.Candidate.{Candidate as rCandidate}
use Rattle.step_trees.specs.declared.standing.Standing.{Standing as rStanding}
use Rattle.step_trees.specs.declared.standing.Standing.TheVariants.{Ended as rEnded, Open as rOpen}
use Rattle.step_trees.specs.declared.standing.Standing.TheVariants.{NoSuchChoice as rNoSuchChoice}

-- a task that may step, and the label of its next statement
pub record Candidate : Type 0 where
  pub path : List ℕ
  pub label : ℕ

-- the task of a leaf with these statements left, if it may step
abbrev pub candidates_by : Codes → Leaf → List Candidate
candidates_by End k = []
candidates_by (Then l s rest) k = record { path = k.path; label = l } ∷ []

-- the tasks of a tree that may step, from left to right: the number of each, from 0, is the choice that
-- names it
abbrev pub candidates : Tree → List Candidate
candidates (Single k) = candidates_by k.rest k
candidates (AndThen t h k) = candidates t
candidates (Beside t u) = candidates t ++ candidates u

-- where a run by given choices stands: it has ended, or these tasks may step; or no task has the choice with
-- this number, from 0
pub data Standing : Type 0 where
  HasEnded : Outcome → Standing
  MayStep : List Candidate → Standing
  Misses : ℕ → Standing

-- where it stands once all choices are used
abbrev pub stands_at : Program → Tree → Contents → Standing
stands_at p t a = if all_done t then HasEnded (Ended (tree_ending p t a)) else MayStep (candidates t)

-- continues after the choice with the number n
abbrev pub stands_on : ℕ → (Tree → Contents → Standing) → Option (Tree × Contents) → Standing
stands_on n go None = Misses n
stands_on n go (Some ta) = go ta.0 ta.1

-- from the choice with the number n on
abbrev pub standing_from : Program → ℕ → List ℕ → Tree → Contents → Standing
standing_from p n [] t a = stands_at p t a
standing_from p n (c ∷ cs) t a = stands_on n (standing_from p (n + 1) cs) (step p c t a)

-- the run of a program on an input by these choices
abbrev pub standing : Program → (input : List (List ℤ)) → (choices : List ℕ) → Standing
standing p input choices = standing_from p 0 choices (first_tree p) (held_by input)

-- where a run stands after some choices, if these further ones end it with this outcome: nothing follows an end, and
-- the next choice names one of the tasks that may step
abbrev pub EndsBeyond : Standing → (further : List ℕ) → Outcome → Type 0
EndsBeyond (HasEnded x) further o = (further ≡ []) × (x ≡ o)
EndsBeyond (MayStep cs) further o = (c : ℕ) × (later : List ℕ) × (further ≡ c ∷ later) × (c < length cs)
EndsBeyond (Misses n) further o = ⊥

-- the plain values
abbrev pub candidate_of : rCandidate → Candidate
candidate_of c = record { path = c.path.turns.items; label = c.label }

abbrev pub listed : Option rCandidate → List Candidate
listed None = []
listed (Some c) = candidate_of c ∷ []

abbrev pub standing_of : rStanding → Standing
standing_of (rEnded o) = HasEnded (outcome o)
standing_of (rOpen cs) = MayStep (map candidate_of cs.items)
standing_of (rNoSuchChoice n) = Misses n
