-- How step trees are represented, and what surrounds a tree within another.
use Rattle.std.specs.Prelude.{◌+◌, ◌≡◌, ◌&&◌, List, [], ◌∷◌, map}
use Rattle.types.specs.Translation.{environment, fault}
use Rattle.types.specs.Trees.{Tree, Single, AndThen, Beside, all_done, ready}
use Rattle.types.specs.Trees.{lines_of, faults_of, rightmost, owner_environment, and_then}
use Rattle.step_trees.specs.Translation.{leaf_of, handler_of}
use Rattle.step_trees.specs.declared.tree.Remains.{Remains}
use Rattle.step_trees.specs.declared.tree.Tree.{Tree as rTree}
use Rattle.step_trees.specs.declared.tree.Tree.TheVariants.{Single as rSingle}
use Rattle.step_trees.specs.declared.tree.Tree.TheVariants.{AndThen' as rAndThen, Beside' as rBeside}
use Rattle.step_trees.specs.declared.tree.Around.{Around}
use Rattle.step_trees.specs.declared.tree.Around.TheVariants.{Behind, Left, Right}

-- the plain form of a tree
abbrev pub tree_of : rTree → Tree
tree_of (rSingle k) = Single (leaf_of k)
tree_of (rAndThen p t w n) = AndThen (tree_of t) (handler_of w.handler) (leaf_of w.leaf)
tree_of (rBeside p t q u n d s) = Beside (tree_of t) (tree_of u)

-- the stored number of leaves that may step is correct, and so is the stored flag that all are done
abbrev pub IsCounted : rTree → Type 0
IsCounted (rSingle k) = Unit {0}
IsCounted (rAndThen p t w n) = IsCounted t × (n ≡ ready (tree_of t))
IsCounted (rBeside p t q u n d s) =
    IsCounted t × IsCounted u × (n ≡ ready (tree_of t) + ready (tree_of u))
    × (d ≡ (all_done (tree_of t) && all_done (tree_of u)))

-- what remains of a tree whose leaves are all done
pub record IsLeftOf (t : Tree) (r : Remains) : Type 0 where
  pub owner : environment r.environment ≡ owner_environment t
  pub spawned : r.spawned ≡ (rightmost t).spawned
  pub lines : map (λ v. v.items) r.lines.items ≡ lines_of t
  pub faults : map fault r.faults.items ≡ faults_of t

-- a tree put into the position that this surrounds
abbrev pub within : Around → Tree → Tree
within (Behind w) t = and_then t (handler_of w.handler) (leaf_of w.leaf)
within (Right u) t = Beside t (tree_of u.value)
within (Left u) t = Beside (tree_of u.value) t

-- a tree put into a position surrounded by several; the nearest is last
abbrev pub inside : List Around → Tree → Tree
inside [] t = t
inside (x ∷ xs) t = within x (inside xs t)

-- the trees that surround a position have correct numbers
abbrev pub IsCountedRound : Around → Type 0
IsCountedRound (Behind w) = Unit {0}
IsCountedRound (Right u) = IsCounted u.value
IsCountedRound (Left u) = IsCounted u.value

-- all trees that surround a position have correct numbers
abbrev pub AreCounted : List Around → Type 0
AreCounted [] = Unit {0}
AreCounted (x ∷ xs) = IsCountedRound x × AreCounted xs
