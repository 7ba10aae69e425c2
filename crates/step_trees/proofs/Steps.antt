-- One step of one leaf, as a relation.
use Rattle.std.proofs.Common.{◌≡◌, ℕ, ◌+◌, ◌-◌, ◌<◌, ◌≤◌, refl, sym, ap, ◌∙◌, subst, arith, Option, Some, None}
use Rattle.std.proofs.lemmas.Bool.Decides.{nat_tests}
use Rattle.std.proofs.lemmas.Bool.{eqb-true, eq-eqb, lt-ltb, le-ltb}
use Rattle.std.specs.Prelude.{Bool, true, false, if◌then◌else◌, nat_eq, nat_lt}
use Rattle.types.specs.Code.{Code, Codes, End, Then, Program}
use Rattle.types.specs.Contents.{Contents}
use Rattle.types.specs.Trees.{Leaf, Handler, Tree, Single, AndThen, Beside, is_done, ready, lines_of, faults_of, rightmost, owner_environment, and_then}
use Rattle.types.specs.TreeSteps.{tree_after, store_after, leaf_step, in_tree, step, unless_done, leaf_at}
use Rattle.step_trees.proofs.Turns.{same_pair, step_here}
use Rattle.step_trees.specs.Laws.{StepsTo}

-- the leaf `<k>` with what an ended tree gives
abbrev pub continuing : Tree → Leaf → Leaf
continuing t k = record k {
  environment = owner_environment t;
  spawned = (rightmost t).spawned;
  lines = lines_of t;
  faults = faults_of t;
}

module _ (p : Program) where
  -- the leaf k, the n-th that may step, takes a step
  pub data Step : (n : ℕ) → (k : Leaf) → Tree → Contents → Tree → Contents → Type 0 where
    here : {k : Leaf} {l : ℕ} {s : Code} {rest : Codes} {a b : Contents} {u : Tree}
        → k.rest ≡ Then l s rest → u ≡ tree_after p l s (record k { rest = rest }) a
        → b ≡ store_after p l s (record k { rest = rest }) a → Step 0 k (Single k) a u b
    first : {n : ℕ} {k : Leaf} {x : Handler} {j : Leaf} {t u v : Tree} {a b : Contents} → Step n k t a u b
        → v ≡ and_then u x j → Step n k (AndThen t x j) a v b
    left : {n : ℕ} {k : Leaf} {t u v : Tree} {a b : Contents} → Step n k t a u b
        → Step n k (Beside t v) a (Beside u v) b
    right : {n m : ℕ} {k : Leaf} {t v w : Tree} {a b : Contents} → n ≡ ready t + m → Step m k v a w b
        → Step n k (Beside t v) a (Beside t w) b

abbrev pub tree_or : Tree → Option (Tree × Contents) → Tree
tree_or d None = d
tree_or d (Some x) = x.0

abbrev pub store_or : Contents → Option (Tree × Contents) → Contents
store_or d None = d
store_or d (Some x) = x.1

-- the origin of a step inside a tree
taken : (f : Tree → Tree) (o : Option (Tree × Contents)) (u : Tree) (b : Contents) → in_tree f o ≡ Some (u, b)
    → (v : Tree) × (o ≡ Some (v, b)) × (u ≡ f v)
taken f None u b e = cc
taken f (Some x) u b e =
    (x.0, ap (λ c. Some (x.0, c)) (ap (store_or b) e), sym (ap (tree_or u) e))

pub below_if : (m n : ℕ) → nat_lt m n ≡ true → m < n
below_if m n e = grind (arith, nat_tests)

pub above_if : (m n : ℕ) → nat_lt m n ≡ false → n ≤ m
above_if m n e = grind (arith, nat_tests)

module _ (p : Program) where
  leaf_from : (c : Codes) (k : Leaf) (a b : Contents) (u : Tree) → k.rest ≡ c → leaf_step p c k a ≡ Some (u, b)
      → Step p 0 k (Single k) a u b
  leaf_from End k a b u r e = cc
  leaf_from (Then l s rest) k a b u r e = Step.here r (sym (ap (tree_or u) e)) (sym (ap (store_or b) e))

  pub step_from : (t : Tree) (n : ℕ) (a : Contents) (u : Tree) (b : Contents) → step p n t a ≡ Some (u, b)
      → (k : Leaf) × Step p n k t a u b
  step_from (Single k) n a u b e = by (nat_eq n 0) refl e
    where
      by : (z : Bool) → nat_eq n 0 ≡ z → (if z then leaf_step p k.rest k a else None) ≡ Some (u, b)
          → (k' : Leaf) × Step p n k' (Single k) a u b
      by true h e = (k, subst (λ n. Step p n k (Single k) a u b) (sym (eqb-true n 0 h)) (leaf_from k.rest k a b u refl e))
      by false h e = cc
  step_from (AndThen t x j) n a u b e =
      let (v, o, f) = taken (λ u. and_then u x j) (step p n t a) u b e in
      let r = step_from t n a v b o in
      (r.0, Step.first r.1 f)
  step_from (Beside t v) n a u b e = by (nat_lt n (ready t)) refl e (step_from t n a) (step_from v (n - ready t) a)
    where
      by : (z : Bool) → nat_lt n (ready t) ≡ z
          → (if z then in_tree (λ u. Beside u v) (step p n t a) else in_tree (λ u. Beside t u) (step p (n - ready t) v a)) ≡ Some (u, b)
          → ((w : Tree) (c : Contents) → step p n t a ≡ Some (w, c) → (k : Leaf) × Step p n k t a w c)
          → ((w : Tree) (c : Contents) → step p (n - ready t) v a ≡ Some (w, c) → (k : Leaf) × Step p (n - ready t) k v a w c)
          → (k : Leaf) × Step p n k (Beside t v) a u b
      by true h e f g =
          let (w, o, q) = taken (λ u. Beside u v) (step p n t a) u b e in
          let r = f w b o in
          (r.0, subst (λ x. Step p n r.0 (Beside t v) a x b) (sym q) (Step.left r.1))
      by false h e f g =
          let (w, o, q) = taken (λ u. Beside t u) (step p (n - ready t) v a) u b e in
          let r = g w b o in
          (r.0, subst (λ x. Step p n r.0 (Beside t v) a x b) (sym q) (Step.right (let z : ready t ≤ n = above_if n (ready t) h in omega arith) r.1))

  -- and back
  pub step_below : {n : ℕ} {k : Leaf} {t u : Tree} {a b : Contents} → Step p n k t a u b → n < ready t
  step_below (Step.here {k = k} r e f) = subst (λ c. 0 < (if is_done c then 0 else 1)) (sym r) (omega arith)
  step_below (Step.first s e) = step_below s
  step_below (Step.left {t = t} {v = v} s) = let h = step_below s in omega arith
  step_below (Step.right {t = t} {v = v} e s) = let h = step_below s in omega arith

  pub step_to : {n : ℕ} {k : Leaf} {t u : Tree} {a b : Contents} → Step p n k t a u b → step p n t a ≡ Some (u, b)
  step_to (Step.here {k = k} {a = a} r e f) = step_here p k.rest k a r ∙ same_pair (sym e) (sym f)
  step_to (Step.first {x = x} {j = j} {b = b} s e) = ap (in_tree (λ u. and_then u x j)) (step_to s) ∙ ap (λ v. Some (v, b)) (sym e)
  step_to (Step.left {n = n} {t = t} {v = v} {a = a} s) =
      ap (λ z. if z then in_tree (λ u. Beside u v) (step p n t a) else in_tree (λ u. Beside t u) (step p (n - ready t) v a)) (lt-ltb n (ready t) (step_below s))
      ∙ ap (in_tree (λ u. Beside u v)) (step_to s)
  step_to (Step.right {n = n} {m = m} {t = t} {v = v} {a = a} e s) =
      let same : n - ready t ≡ m = omega arith in
      ap (λ z. if z then in_tree (λ u. Beside u v) (step p n t a) else in_tree (λ u. Beside t u) (step p (n - ready t) v a)) (le-ltb n (ready t) (omega arith))
      ∙ ap (λ m. in_tree (λ u. Beside t u) (step p m v a)) same ∙ ap (in_tree (λ u. Beside t u)) (step_to s)

  -- it is the n-th leaf that may step
  pub step_leaf : {n : ℕ} {k : Leaf} {t u : Tree} {a b : Contents} → Step p n k t a u b → leaf_at n t ≡ Some k
  step_leaf (Step.here {k = k} r e f) = ap (λ c. unless_done c k) r
  step_leaf (Step.first s e) = step_leaf s
  step_leaf (Step.left {n = n} {t = t} {v = v} s) =
      ap (λ z. if z then leaf_at n t else leaf_at (n - ready t) v) (lt-ltb n (ready t) (step_below s)) ∙ step_leaf s
  step_leaf (Step.right {n = n} {m = m} {t = t} {v = v} e s) =
      let same : n - ready t ≡ m = omega arith in
      ap (λ z. if z then leaf_at n t else leaf_at (n - ready t) v) (le-ltb n (ready t) (omega arith)) ∙ ap (λ m. leaf_at m v) same ∙ step_leaf s

abbrev leaf_or : Leaf → Option Leaf → Leaf
leaf_or d None = d
leaf_or d (Some k) = k

module _ (p : Program) where
  -- a leaf that may step takes a step
  pub record Stepped (n : ℕ) (k : Leaf) (t : Tree) (a : Contents) : Type 0 where
    pub tree : Tree
    pub store : Contents
    pub step : Step p n k t a tree store

  leaf_steps : (c : Codes) (j k : Leaf) (a : Contents) → j.rest ≡ c → unless_done c j ≡ Some k → Stepped 0 k (Single j) a
  leaf_steps End j k a r e = cc
  leaf_steps (Then l s rest) j k a r e = subst (λ k. Stepped 0 k (Single j) a) (ap (leaf_or k) e) (record {
    tree = tree_after p l s (record j { rest = rest }) a;
    store = store_after p l s (record j { rest = rest }) a;
    step = Step.here r refl refl;
  })

  pub step_at : (t : Tree) (n : ℕ) (k : Leaf) (a : Contents) → leaf_at n t ≡ Some k → Stepped n k t a
  step_at (Single j) n k a e = by (nat_eq n 0) refl e
    where
      by : (z : Bool) → nat_eq n 0 ≡ z → (if z then unless_done j.rest j else None) ≡ Some k → Stepped n k (Single j) a
      by true h e = subst (λ n. Stepped n k (Single j) a) (sym (eqb-true n 0 h)) (leaf_steps j.rest j k a refl e)
      by false h e = cc
  step_at (AndThen t x j) n k a e = let s = step_at t n k a e in record { tree = and_then s.tree x j; store = s.store; step = Step.first s.step refl }
  step_at (Beside t v) n k a e = by (nat_lt n (ready t)) refl e (step_at t n k a) (step_at v (n - ready t) k a)
    where
      by : (z : Bool) → nat_lt n (ready t) ≡ z → (if z then leaf_at n t else leaf_at (n - ready t) v) ≡ Some k
          → (leaf_at n t ≡ Some k → Stepped n k t a) → (leaf_at (n - ready t) v ≡ Some k → Stepped (n - ready t) k v a) → Stepped n k (Beside t v) a
      by true h e f g = let s = f e in record { tree = Beside s.tree v; store = s.store; step = Step.left s.step }
      by false h e f g =
          let s = g e in
          record { tree = Beside t s.tree; store = s.store; step = Step.right (let z : ready t ≤ n = above_if n (ready t) h in omega arith) s.step }

-- The leaves that may step are those numbered below their count

leaf_below : (c : Codes) (k : Leaf) (n : ℕ) → ◌<◌ n (if is_done c then 0 else 1)
    → (j : Leaf) × ((if nat_eq n 0 then unless_done c k else None) ≡ Some j)
leaf_below End k n h = absurd (omega arith)
leaf_below (Then l s rest) k n h = (k, ap (λ z. if z then Some k else None) (eq-eqb n 0 (omega arith)))

ready_leaf : (t : Tree) (n : ℕ) → n < ready t → (k : Leaf) × (leaf_at n t ≡ Some k)
ready_leaf (Single k) n h = leaf_below k.rest k n h
ready_leaf (AndThen t x j) n h = ready_leaf t n h
ready_leaf (Beside t v) n h = by (nat_lt n (ready t)) refl (ready_leaf t n) (ready_leaf v (n - ready t))
  where
    by : (z : Bool) → nat_lt n (ready t) ≡ z → (n < ready t → (k : Leaf) × (leaf_at n t ≡ Some k))
        → (n - ready t < ready v → (k : Leaf) × (leaf_at (n - ready t) v ≡ Some k))
        → (k : Leaf) × ((if z then leaf_at n t else leaf_at (n - ready t) v) ≡ Some k)
    by true e f g = f (below_if n (ready t) e)
    by false e f g = g (let z : ready t ≤ n = above_if n (ready t) e in omega (arith, h, z))

pub ready_steps : (p : Program) (n : ℕ) (t : Tree) (a : Contents) → n < ready t → StepsTo p n t a
ready_steps p n t a h =
    let k = ready_leaf t n h in
    let s = step_at p t n k.0 a k.1 in
    record { tree = s.tree; store = s.store; step = step_to p s.step }

pub others_stay : (p : Program) (n : ℕ) (t : Tree) (a : Contents) → ready t ≤ n → step p n t a ≡ None
others_stay p n t a h = by (step p n t a) refl
  where
    by : (o : Option (Tree × Contents)) → step p n t a ≡ o → o ≡ None
    by None e = refl
    by (Some x) e = absurd (let b = step_below p (step_from p t n a x.0 x.1 e).1 in omega (arith, h, b))
