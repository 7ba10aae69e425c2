-- Steps of trees in their Rust form, and the result of given choices.
use Rattle.std.specs.Prelude.{ℕ, ℤ, ◌≡◌, List, Some}
use Rattle.types.specs.Code.{Program}
use Rattle.types.specs.Contents.{FitsArrays, held_by}
use Rattle.types.specs.Translation.{program, outcome}
use Rattle.types.specs.TreeRuns.{Explored, Ends, Open, NoSuchChoice}
use Rattle.types.specs.Trees.{Tree}
use Rattle.types.specs.TreeSteps.{step, first_tree}
use Rattle.statement_steps.specs.declared.thread.Plan.{Plan}
use Rattle.statement_steps.specs.Lists.{lists_of, contents_of}
use Rattle.step_trees.specs.declared.explore.Explored.{Explored as rExplored}
use Rattle.step_trees.specs.declared.explore.Explored.TheVariants.{Ended as rEnded, Open as rOpen}
use Rattle.step_trees.specs.declared.explore.Explored.TheVariants.{NoSuchChoice as rNoSuchChoice}
use Rattle.step_trees.specs.declared.explore.Course.{Course}
use Rattle.step_trees.specs.Alike.{AreAlike}
use Rattle.step_trees.specs.Places.{whole, IsPlace}
use Rattle.step_trees.specs.Windows.{TreeLies}

-- the stored numbers of a place are correct, the windows of its tree lie in their arrays, and these
-- arrays have a number for each element
pub record IsHeld (plan : Plan) (c : Course) : Type 0 where
  pub place : IsPlace c.place
  pub windows : TreeLies (program plan.program.now) (whole c.place)
  pub store : FitsArrays (program plan.program.now).arrays (lists_of c.store)

-- a run of a program on an input, at its start
pub record Begins (p : Program) (input : List (List ℤ)) (r : Plan × Course) : Type 0 where
  pub held : IsHeld r.0 r.1
  pub code : program r.0.program.now ≡ p
  pub tree : whole r.1.place ≡ first_tree p
  pub store : contents_of r.1.store ≡ held_by input

-- the step of the n-th leaf that may step leads to a tree like the stored one, and the run is
-- stored correctly again
pub record StepsTree (plan : Plan) (c : Course) (n : ℕ) (next : Course) : Type 0 where
  pub tree : Tree
  pub alike : AreAlike (whole next.place) tree
  pub step : step (program plan.program.now) n (whole c.place) (contents_of c.store)
      ≡ Some (tree, contents_of next.store)
  pub held : IsHeld plan next

-- the plain value of a result
abbrev pub explored_of : rExplored → Explored
explored_of (rEnded o) = Ends (outcome o)
explored_of (rOpen leaves) = Open leaves
explored_of (rNoSuchChoice n) = NoSuchChoice n
