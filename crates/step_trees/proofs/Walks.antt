-- Down a tree, and back up.
use Rattle.std.proofs.Common.{◌≡◌, ℕ, ◌+◌, ◌-◌, ◌<◌, ◌≤◌, List, [], ◌∷◌, ◌++◌, Option, Some, None, refl, sym, ap, ◌∙◌, subst, arith}
use Rattle.std.specs.Prelude.{Bool, true, false, nat_lt, if◌then◌else◌, Box}
use Rattle.std.specs.Global.{Global}
use Rattle.std.proofs.lemmas.Bool.{lt-ltb, le-ltb}
use Rattle.types.specs.Code.{Codes, End, Then, Program}
use Rattle.types.specs.Contents.{Contents}
use Rattle.types.specs.Trees.{Leaf, Tree, Single, Beside, is_done, ready}
use Rattle.types.specs.TreeSteps.{leaf_step, in_tree, step, unless_done, leaf_at}
use Rattle.step_trees.specs.declared.leaf.Waiting.{Waiting}
use Rattle.step_trees.specs.declared.tree.Tree.{Tree as rTree}
use Rattle.step_trees.specs.declared.tree.Tree.TheVariants.{AndThen' as rAndThen, Beside' as rBeside}
use Rattle.step_trees.specs.declared.tree.Around.{Around}
use Rattle.step_trees.specs.declared.tree.Around.TheVariants.{Behind, Left, Right}
use Rattle.step_trees.specs.declared.tree.Round.{Round}
use Rattle.step_trees.specs.Alike.{AreAlike}
use Rattle.step_trees.specs.Held.{tree_of, within, inside, IsCounted, IsCountedRound, AreCounted}
use Rattle.step_trees.specs.Places.{IsRound}
use Rattle.step_trees.proofs.AlikeTrees.{alike-inside}

-- the nearest is last
pub inside-push : (xs : List Around) (x : Around) (t : Tree) → inside (xs ++ x ∷ []) t ≡ inside xs (within x t)
inside-push [] x t = refl
inside-push (y ∷ xs) x t = ap (within y) (inside-push xs x t)

pub counted-push : (xs : List Around) (x : Around) → AreCounted xs → IsCountedRound x → AreCounted (xs ++ x ∷ [])
counted-push [] x h k = (k, tt)
counted-push (y ∷ xs) x h k = (h.0, counted-push xs x h.1 k)

pub counted-pop : (xs : List Around) (x : Around) → AreCounted (xs ++ x ∷ []) → AreCounted xs × IsCountedRound x
counted-pop [] x h = (tt, h.0)
counted-pop (y ∷ xs) x h = let r = counted-pop xs x h.1 in ((h.0, r.0), r.1)

-- a step inside of one more
pub in_tree-push : (xs : List Around) (x : Around) (o : Option (Tree × Contents))
    → in_tree (inside xs) (in_tree (within x) o) ≡ in_tree (inside (xs ++ x ∷ [])) o
in_tree-push xs x None = refl
in_tree-push xs x (Some r) = ap (λ (t : Tree). let o : Option (Tree × Contents) = Some (t, r.1) in o) (sym (inside-push xs x r.0))

module _ (n : ℕ) (t v : Tree) where
  -- in `t par v` a small number names a leaf of t
  pub step-left : (p : Program) (a : Contents) → nat_lt n (ready t) ≡ true
      → step p n (Beside t v) a ≡ in_tree (λ u. Beside u v) (step p n t a)
  step-left p a e =
      ap (λ (z : Bool). if z then in_tree (λ u. Beside u v) (step p n t a) else in_tree (λ u. Beside t u) (step p (n - ready t) v a)) e

  pub leaf-left : nat_lt n (ready t) ≡ true → leaf_at n (Beside t v) ≡ leaf_at n t
  leaf-left e = ap (λ (z : Bool). if z then leaf_at n t else leaf_at (n - ready t) v) e

  -- and a large one a leaf of v
  pub step-right : (p : Program) (a : Contents) (m : ℕ) → nat_lt n (ready t) ≡ false → n - ready t ≡ m
      → step p n (Beside t v) a ≡ in_tree (λ u. Beside t u) (step p m v a)
  step-right p a m e f =
      ap (λ (z : Bool). if z then in_tree (λ u. Beside u v) (step p n t a) else in_tree (λ u. Beside t u) (step p (n - ready t) v a)) e
      ∙ ap (λ (m : ℕ). in_tree (λ u. Beside t u) (step p m v a)) f

  pub leaf-right : (m : ℕ) → nat_lt n (ready t) ≡ false → n - ready t ≡ m → leaf_at n (Beside t v) ≡ leaf_at m v
  leaf-right m e f = ap (λ (z : Bool). if z then leaf_at n t else leaf_at (n - ready t) v) e ∙ ap (λ (m : ℕ). leaf_at m v) f

-- a leaf of its own that may step has the number 0, and isn't done
only_leaf : (c : Codes) (n : ℕ) → ◌<◌ n (if is_done c then 0 else 1) → (n ≡ 0) × (is_done c ≡ false)
only_leaf End n h = absurd (omega (arith, h))
only_leaf (Then l s rest) n h = (omega (arith, h), refl)

open_leaf : (c : Codes) (k : Leaf) → is_done c ≡ false → unless_done c k ≡ Some k
open_leaf End k e = absurd (let bad : ⊥ = cc in bad)
open_leaf (Then l s rest) k e = refl

module _ (k : Leaf) (n : ℕ) (below : n < ready (Single k)) where
  pub single-open : is_done k.rest ≡ false
  single-open = (only_leaf k.rest n below).1

  pub single-leaf : leaf_at n (Single k) ≡ Some k
  single-leaf =
      ap (λ (m : ℕ). leaf_at m (Single k)) (only_leaf k.rest n below).0 ∙ open_leaf k.rest k single-open

  pub single-step : (p : Program) (a : Contents) → step p n (Single k) a ≡ leaf_step p k.rest k a
  single-step p a = ap (λ (m : ℕ). step p m (Single k) a) (only_leaf k.rest n below).0

-- on the way to the n-th leaf that may step, which is the m-th leaf of the inner tree
pub record Way (n : ℕ) (whole : Tree) (xs : List Around) (m : ℕ) (t : rTree) : Type 0 where
  pub counted : IsCounted t
  pub below : m < ready (tree_of t)
  pub leaf : leaf_at n whole ≡ leaf_at m (tree_of t)
  pub steps : (p : Program) (a : Contents) → step p n whole a ≡ in_tree (inside xs) (step p m (tree_of t) a)

module _ (n : ℕ) (whole : Tree) (xs : List Around) (m : ℕ) where
  pub way-as : {ys : List Around} {k : ℕ} {t u : rTree} → xs ≡ ys → m ≡ k → t ≡ u → Way n whole xs m t → Way n whole ys k u
  way-as {ys} {k} {t} {u} e f g w =
      subst (λ ys. Way n whole ys k u) e (subst (λ k. Way n whole xs k u) f (subst (Way n whole xs m) g w))

  pub way-first : (p : _) (f : rTree) (b : Waiting) (r : ℕ) → Way n whole xs m (rAndThen p f b r)
      → Way n whole (xs ++ Behind b ∷ []) m f
  way-first p f b r w = record {
    counted = w.counted.0;
    below = w.below;
    leaf = w.leaf;
    steps = λ p a. w.steps p a ∙ in_tree-push xs (Behind b) (step p m (tree_of f) a);
  }

  pub way-left : (p : _) (f : rTree) (q : _) (b : Box rTree Global) (r : ℕ) (d : Bool) (s : ℕ) → m < ready (tree_of f)
      → Way n whole xs m (rBeside p f q b.value r d s) → Way n whole (xs ++ Right b ∷ []) m f
  way-left p f q b r d s h w =
      let e = lt-ltb m (ready (tree_of f)) h in
      record {
        counted = w.counted.0;
        below = h;
        leaf = w.leaf ∙ leaf-left m (tree_of f) (tree_of b.value) e;
        steps = λ p a.
            w.steps p a ∙ ap (in_tree (inside xs)) (step-left m (tree_of f) (tree_of b.value) p a e)
            ∙ in_tree-push xs (Right b) (step p m (tree_of f) a);
      }

  pub way-right : (p : _) (b : Box rTree Global) (q : _) (g : rTree) (r : ℕ) (d : Bool) (s k : ℕ) → ready (tree_of b.value) ≤ m
      → m - ready (tree_of b.value) ≡ k
      → Way n whole xs m (rBeside p b.value q g r d s) → Way n whole (xs ++ Left b ∷ []) k g
  way-right p b q g r d s k h is w =
      let e = le-ltb m (ready (tree_of b.value)) h in
      let all : m < ready (tree_of b.value) + ready (tree_of g) = w.below in
      record {
        counted = w.counted.1;
        below = omega (arith, h, is, all);
        leaf = w.leaf ∙ leaf-right m (tree_of b.value) (tree_of g) k e is;
        steps = λ p a.
            w.steps p a ∙ ap (in_tree (inside xs)) (step-right m (tree_of b.value) (tree_of g) p a k e is)
            ∙ in_tree-push xs (Left b) (step p k (tree_of g) a);
      }

-- on the way up: a tree together with what surrounds it is like the whole
pub record IsLike (whole : Tree) (r : Round) (t : rTree) : Type 0 where
  pub round : IsRound r
  pub tree : IsCounted t
  pub same : AreAlike (inside r.around.items (tree_of t)) whole

-- one level up
pub up-by : (whole : Tree) (r s : Round) (x : Around) (t u : rTree) → r.around.items ≡ s.around.items ++ x ∷ [] → IsRound s
    → IsCounted u → AreAlike (tree_of u) (within x (tree_of t)) → IsLike whole r t → IsLike whole s u
up-by whole r s x t u e round tree g h = record {
  round = round;
  tree = tree;
  same =
      AreAlike.through (alike-inside s.around.items g)
      (subst (λ v. AreAlike v whole)
      (ap (λ ys. inside ys (tree_of t)) e ∙ inside-push s.around.items x (tree_of t)) h.same);
}
