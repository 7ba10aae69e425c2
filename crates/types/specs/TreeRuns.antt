-- Runs of step trees: lists of single steps, each of which is done by any leaf that can step.
use Rattle.std.specs.Prelude.{ℕ, suc, ◌+◌, ◌≡◌, List, [], ◌∷◌, ℤ, Option, Some, None, if◌then◌else◌}
use Rattle.types.specs.Code.{Program}
use Rattle.types.specs.Contents.{Contents, held_by, shown}
use Rattle.types.specs.Outcome.{Ending, Outcome, Ended}
use Rattle.types.specs.Trees.{Tree, all_done, ready, lines_of, faults_of}
use Rattle.types.specs.TreeSteps.{step, first_tree}

-- `count` single steps lead from one tree and store to others
pub data Runs (p : Program) : (count : ℕ) → Tree → Contents → Tree → Contents → Type 0 where
  here : {t : Tree} {a : Contents} → Runs p 0 t a t a
  next : {t u v : Tree} {a b c : Contents} {k : ℕ} → (choice : ℕ)
      → step p choice t a ≡ Some (u, b) → Runs p k u b v c → Runs p (suc k) t a v c

-- a run from `<main>` reaches the tree and the store
abbrev pub Reachable : Program → (input : Contents) → Tree → Contents → Type 0
Reachable p input t a = (n : ℕ) × Runs p n (first_tree p) input t a

-- the result of a run by given choices: its outcome, or the number of leaves that can step if it
-- has not ended, or the first choice that names no leaf, numbered from 0
pub data Explored : Type 0 where
  Ends : Outcome → Explored
  Open : (leaves : ℕ) → Explored
  NoSuchChoice : ℕ → Explored

-- the contents and the output of an ended tree
abbrev pub tree_ending : Program → Tree → Contents → Ending
tree_ending p t a =
    record { arrays = shown p.arrays a; lines = lines_of t; faults = faults_of t }

-- the result for a tree and a store, once all choices are used
abbrev pub told : Program → Tree → Contents → Explored
told p t a = if all_done t then Ends (Ended (tree_ending p t a)) else Open (ready t)

-- continues after the choice with the number n
abbrev pub goes_on : ℕ → (Tree → Contents → Explored) → Option (Tree × Contents) → Explored
goes_on n go None = NoSuchChoice n
goes_on n go (Some ta) = go ta.0 ta.1

-- the result from the choice with the number n on
abbrev pub explored_from : Program → ℕ → List ℕ → Tree → Contents → Explored
explored_from p n [] t a = told p t a
explored_from p n (c ∷ cs) t a = goes_on n (explored_from p (n + 1) cs) (step p c t a)

-- the run of a program on an input by these choices
abbrev pub explored : Program → (input : List (List ℤ)) → (choices : List ℕ) → Explored
explored p input choices = explored_from p 0 choices (first_tree p) (held_by input)
