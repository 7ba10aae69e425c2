-- Windows of trees that lie in their arrays.
use Rattle.std.specs.Prelude.{List, [], ◌∷◌}
use Rattle.types.specs.Code.{Program}
use Rattle.types.specs.Trees.{Caller, Leaf, Tree, Single, AndThen, Beside}
use Rattle.statement_steps.specs.Bounds.{LiesInArrays}

module _ (p : Program) where
  -- the windows of what waits for calls to return lie in their arrays
  abbrev pub CallersLie : List Caller → Type 0
  CallersLie [] = Unit {0}
  CallersLie (f ∷ fs) = LiesInArrays p f.environment × CallersLie fs

  -- the windows of a leaf, and of its callers, lie in their arrays
  abbrev pub LeafLies : Leaf → Type 0
  LeafLies k = LiesInArrays p k.environment × CallersLie k.callers

  -- the windows of all leaves of a tree, and of what waits after a `then`, lie in their arrays
  abbrev pub TreeLies : Tree → Type 0
  TreeLies (Single k) = LeafLies k
  TreeLies (AndThen t h k) = TreeLies t × LeafLies k
  TreeLies (Beside t u) = TreeLies t × TreeLies u
