-- A position in a tree: the number of leaves around it that may step, and which leaves of the whole
-- tree are there.
use Rattle.std.proofs.Common.{◌≡◌, ℕ, ◌+◌, ◌<◌, List, [], ◌∷◌, ◌++◌, Option, Some, None, refl, ap, ◌∙◌, arith}
use Rattle.std.proofs.lemmas.Bool.{and_parts, lt-ltb, le-ltb}
use Rattle.std.specs.Prelude.{Bool, true, false, ◌&&◌, if◌then◌else◌}
use Rattle.std.proofs.Math.Bool.{and-false}
use Rattle.types.specs.Code.{Program}
use Rattle.types.specs.Contents.{Contents}
use Rattle.types.specs.Trees.{Leaf, Handler, Tree, Single, AndThen, Beside, all_done, ready, closed, and_then}
use Rattle.types.specs.TreeSteps.{in_tree, step, leaf_at}
use Rattle.step_trees.specs.Translation.{leaf_of, handler_of}
use Rattle.step_trees.specs.declared.tree.Around.{Around}
use Rattle.step_trees.specs.declared.tree.Around.TheVariants.{Behind, Left, Right}
use Rattle.step_trees.specs.Held.{tree_of, within, inside}
use Rattle.step_trees.specs.declared.tree.Round.{Round}
use Rattle.step_trees.specs.declared.walk.Zipper.{Zipper}
use Rattle.step_trees.specs.Places.{ready_left, ready_right, lefts, rights, whole, IsPlace, IsRound}
use Rattle.step_trees.proofs.Walks.{step-left, step-right, leaf-left, leaf-right}

pub lefts-push : (xs : List Around) (x : Around) → lefts (xs ++ x ∷ []) ≡ lefts xs + ready_left x
lefts-push [] x = omega arith
lefts-push (y ∷ xs) x = let more = lefts-push xs x in omega (arith, more)

pub rights-push : (xs : List Around) (x : Around) → rights (xs ++ x ∷ []) ≡ rights xs + ready_right x
rights-push [] x = omega arith
rights-push (y ∷ xs) x = let more = rights-push xs x in omega (arith, more)

-- if all leaves are done, none may step
pub done_ready : (t : Tree) → all_done t ≡ true → ready t ≡ 0
done_ready (Single k) e = ap (λ (z : Bool). let n : ℕ = if z then 0 else 1 in n) e
done_ready (AndThen t x k) e = absurd (let bad : ⊥ = cc in bad)
done_ready (Beside t u) e =
    let both = and_parts (all_done t) (all_done u) e in
    let left = done_ready t both.0 in let right = done_ready u both.1 in
    omega (arith, left, right)

going_by : (t : Tree) (b : Bool) → all_done t ≡ b → 0 < ready t → b ≡ false
going_by t false e h = refl
going_by t true e h = let none = done_ready t e in absurd (omega (arith, none, h))

-- so a tree with a leaf that may step isn't done
pub ready_going : (t : Tree) → 0 < ready t → all_done t ≡ false
ready_going t h = going_by t (all_done t) refl h

-- what waits for the end of such a tree continues to wait
pub then_going : (t : Tree) (x : Handler) (k : Leaf) → all_done t ≡ false → and_then t x k ≡ AndThen t x k
then_going t x k e = ap (λ (z : Bool). if z then Single (closed t x k) else AndThen t x k) e

-- what isn't done isn't within others
pub within_going : (x : Around) (t : Tree) → all_done t ≡ false → all_done (within x t) ≡ false
within_going (Behind w) t e = ap all_done (then_going t (handler_of w.handler) (leaf_of w.leaf) e)
within_going (Right u) t e = ap (λ (z : Bool). z && all_done (tree_of u.value)) e
within_going (Left u) t e = ap (λ (z : Bool). all_done (tree_of u.value) && z) e ∙ and-false (all_done (tree_of u.value))

pub inside_going : (xs : List Around) (t : Tree) → all_done t ≡ false → all_done (inside xs t) ≡ false
inside_going [] t e = e
inside_going (x ∷ xs) t e = within_going x (inside xs t) (inside_going xs t e)

within_ready : (x : Around) (t : Tree) → all_done t ≡ false → ready (within x t) ≡ (ready_left x + ready t) + ready_right x
within_ready (Behind w) t e =
    let same : ready (within (Behind w) t) ≡ ready t = ap ready (then_going t (handler_of w.handler) (leaf_of w.leaf) e) in
    omega (arith, same)
within_ready (Right u) t e = omega arith
within_ready (Left u) t e = omega arith

-- the total number of leaves that may step
pub inside_ready : (xs : List Around) (t : Tree) → all_done t ≡ false → ready (inside xs t) ≡ (lefts xs + ready t) + rights xs
inside_ready [] t e = omega arith
inside_ready (x ∷ xs) t e =
    let nearer = inside_ready xs t e in
    let further = within_ready x (inside xs t) (inside_going xs t e) in
    omega (arith, nearer, further)

-- a step inside of one more
in_tree-in : (f g : Tree → Tree) (o : Option (Tree × Contents)) → in_tree f (in_tree g o) ≡ in_tree (λ t. f (g t)) o
in_tree-in f g None = refl
in_tree-in f g (Some r) = refl

-- the m-th leaf of a tree, which may step, is one of the whole
module _ (m : ℕ) (t : Tree) (below : m < ready t) where
  going : (xs : List Around) → all_done (inside xs t) ≡ false
  going xs = inside_going xs t (ready_going t (omega (arith, below)))

  inside_below : (xs : List Around) → lefts xs + m < ready (inside xs t)
  inside_below xs = let all = inside_ready xs t (going []) in omega (arith, all, below)

  pub inside_leaf : (xs : List Around) → leaf_at (lefts xs + m) (inside xs t) ≡ leaf_at m t
  inside_leaf [] = let none : lefts [] + m ≡ m = omega arith in ap (λ (n : ℕ). leaf_at n t) none
  inside_leaf (Behind w ∷ xs) =
      let n = lefts xs + m in let same : lefts (Behind w ∷ xs) + m ≡ n = omega arith in
      let x = handler_of w.handler in let k = leaf_of w.leaf in
      ap (λ (i : ℕ). leaf_at i (and_then (inside xs t) x k)) same
      ∙ ap (leaf_at n) (then_going (inside xs t) x k (going xs))
      ∙ inside_leaf xs
  inside_leaf (Right u ∷ xs) =
      let n = lefts xs + m in let same : lefts (Right u ∷ xs) + m ≡ n = omega arith in
      let v = tree_of u.value in
      ap (λ (i : ℕ). leaf_at i (Beside (inside xs t) v)) same
      ∙ leaf-left n (inside xs t) v (lt-ltb n (ready (inside xs t)) (inside_below xs))
      ∙ inside_leaf xs
  inside_leaf (Left u ∷ xs) =
      let v = tree_of u.value in let n = lefts (Left u ∷ xs) + m in
      leaf-right n v (inside xs t) (lefts xs + m) (le-ltb n (ready v) (omega arith)) (omega arith)
      ∙ inside_leaf xs

  pub inside_step : (p : Program) (a : Contents) (xs : List Around)
      → step p (lefts xs + m) (inside xs t) a ≡ in_tree (inside xs) (step p m t a)
  inside_step p a [] =
      let none : lefts [] + m ≡ m = omega arith in ap (λ (n : ℕ). step p n t a) none ∙ by (step p m t a)
    where
      by : (o : Option (Tree × Contents)) → o ≡ in_tree (inside []) o
      by None = refl
      by (Some r) = refl
  inside_step p a (Behind w ∷ xs) =
      let n = lefts xs + m in let same : lefts (Behind w ∷ xs) + m ≡ n = omega arith in
      let x = handler_of w.handler in let k = leaf_of w.leaf in
      ap (λ (i : ℕ). step p i (and_then (inside xs t) x k) a) same
      ∙ ap (λ u. step p n u a) (then_going (inside xs t) x k (going xs))
      ∙ ap (in_tree (λ u. and_then u x k)) (inside_step p a xs)
      ∙ in_tree-in (λ u. and_then u x k) (inside xs) (step p m t a)
  inside_step p a (Right u ∷ xs) =
      let n = lefts xs + m in let same : lefts (Right u ∷ xs) + m ≡ n = omega arith in
      let v = tree_of u.value in
      ap (λ (i : ℕ). step p i (Beside (inside xs t) v) a) same
      ∙ step-left n (inside xs t) v p a (lt-ltb n (ready (inside xs t)) (inside_below xs))
      ∙ ap (in_tree (λ w. Beside w v)) (inside_step p a xs)
      ∙ in_tree-in (λ w. Beside w v) (inside xs) (step p m t a)
  inside_step p a (Left u ∷ xs) =
      let v = tree_of u.value in let n = lefts (Left u ∷ xs) + m in
      step-right n v (inside xs t) p a (lefts xs + m) (le-ltb n (ready v) (omega arith)) (omega arith)
      ∙ ap (in_tree (λ w. Beside v w)) (inside_step p a xs)
      ∙ in_tree-in (λ w. Beside v w) (inside xs) (step p m t a)

-- the stored numbers of a place give the total number of leaves that may step
pub placed_ready : (r : Round) (t : Tree) (n here : ℕ) → IsRound r → (all_done t ≡ true → r.around.items ≡ [])
    → here ≡ ready t → n ≡ (r.left + here) + r.right → n ≡ ready (inside r.around.items t)
placed_ready r t n here h settled e f = by (all_done t) refl
  where
    by : (b : Bool) → all_done t ≡ b → n ≡ ready (inside r.around.items t)
    by true is =
        let none = settled is in
        let left : lefts r.around.items ≡ 0 = ap lefts none in let right : rights r.around.items ≡ 0 = ap rights none in
        let same : ready (inside r.around.items t) ≡ ready t = ap (λ xs. ready (inside xs t)) none in
        let l = h.left in let g = h.right in
        omega (arith, left, right, same, l, g, e, f)
    by false is =
        let all = inside_ready r.around.items t is in let l = h.left in let g = h.right in
        omega (arith, all, l, g, e, f)

-- if a leaf may step, a place isn't done
pub place_going : (c : Zipper) → IsPlace c → 0 < ready (whole c) → all_done (tree_of c.tree) ≡ false
place_going c h some = by (all_done (tree_of c.tree)) refl
  where
    by : (b : Bool) → all_done (tree_of c.tree) ≡ b → b ≡ false
    by false is = refl
    by true is =
        let same : ready (whole c) ≡ ready (tree_of c.tree) = ap (λ xs. ready (inside xs (tree_of c.tree))) (h.settled is) in
        let none = done_ready (tree_of c.tree) is in
        absurd (omega (arith, same, none, some))
