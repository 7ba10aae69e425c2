-- A position in a tree, and what surrounds it.
use Rattle.std.specs.Prelude.{ℕ, ◌+◌, ◌<◌, ◌≤◌, ◌≡◌, ◌++◌, List, [], ◌∷◌, true, Option, Some, None}
use Rattle.types.specs.Trees.{Tree, all_done, ready}
use Rattle.step_trees.specs.declared.tree.Tree.{Tree as rTree}
use Rattle.step_trees.specs.declared.tree.Around.{Around}
use Rattle.step_trees.specs.declared.tree.Around.TheVariants.{Behind, Left, Right}
use Rattle.step_trees.specs.declared.walk.Zipper.{Zipper}
use Rattle.step_trees.specs.declared.tree.Round.{Round}
use Rattle.step_trees.specs.Alike.{AreAlike}
use Rattle.step_trees.specs.Held.{tree_of, inside, IsCounted, IsCountedRound, AreCounted}

-- the number of leaves that may step to the left of a position, in one surrounding part
abbrev pub ready_left : Around → ℕ
ready_left (Behind w) = 0
ready_left (Right u) = 0
ready_left (Left u) = ready (tree_of u.value)

-- the number of leaves that may step to the right of a position, in one surrounding part
abbrev pub ready_right : Around → ℕ
ready_right (Behind w) = 0
ready_right (Right u) = ready (tree_of u.value)
ready_right (Left u) = 0

-- the number to the left, in all surrounding parts
abbrev pub lefts : List Around → ℕ
lefts [] = 0
lefts (x ∷ xs) = ready_left x + lefts xs

abbrev pub rights : List Around → ℕ
rights [] = 0
rights (x ∷ xs) = ready_right x + rights xs

-- the stored numbers are correct
pub record IsRound (r : Round) : Type 0 where
  pub counted : AreCounted r.around.items
  pub left : r.left ≡ lefts r.around.items
  pub right : r.right ≡ rights r.around.items

-- the nearest surrounding part is removed, or there is none
abbrev pub Pops : Option Around → (old new : List Around) → Type 0
Pops None old new = (old ≡ []) × (new ≡ [])
Pops (Some x) old new = (old ≡ new ++ x ∷ []) × IsCountedRound x

-- the tree that a place is in
abbrev pub whole : Zipper → Tree
whole c = inside c.round.around.items (tree_of c.tree)

-- the stored numbers of a place are correct, and if all its leaves are done, nothing surrounds it
pub record IsPlace (c : Zipper) : Type 0 where
  pub round : IsRound c.round
  pub tree : IsCounted c.tree
  pub settled : all_done (tree_of c.tree) ≡ true → c.round.around.items ≡ []
  pub ready : c.ready ≡ ready (whole c)

-- the n-th leaf of t that may step is in the inner tree of a tree that is like t
pub record IsRaised (t : Tree) (n : ℕ) (r : Round × rTree) : Type 0 where
  pub round : IsRound r.0
  pub tree : IsCounted r.1
  pub same : AreAlike (inside r.0.around.items (tree_of r.1)) t
  pub from : lefts r.0.around.items ≤ n
  pub below : n < lefts r.0.around.items + ready (tree_of r.1)
