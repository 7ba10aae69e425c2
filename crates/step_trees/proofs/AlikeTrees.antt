-- Trees that are alike have the same steps and the same results.
use Rattle.std.proofs.Common.{◌≡◌, ℕ, ◌+◌, ◌≤◌, List, [], ◌∷◌, ◌++◌, Some, refl, sym, ap, ◌∙◌, subst, arith}
use Rattle.std.proofs.lemmas.List.{append_assoc}
use Rattle.std.proofs.Math.Bool.{and_assoc}
use Rattle.std.specs.Prelude.{ℤ, Bool, true, false, ◌&&◌, nat_lt, if◌then◌else◌}
use Rattle.types.specs.Code.{Program}
use Rattle.types.specs.Contents.{Contents}
use Rattle.types.specs.Run.{Fault}
use Rattle.types.specs.Outcome.{Ended}
use Rattle.types.specs.Trees.{Leaf, Handler, Tree, Single, AndThen, Beside, all_done, ready, lines_of, faults_of, rightmost, task_environment, after_faults, closed, and_then}
use Rattle.types.specs.TreeRuns.{Ends, Open, tree_ending, told, goes_on, explored_from}
use Rattle.types.specs.TreeSteps.{step}
use Rattle.types.specs.Value.{Environment}
use Rattle.step_trees.specs.Translation.{leaf_of, handler_of}
use Rattle.step_trees.specs.declared.tree.Around.{Around}
use Rattle.step_trees.specs.declared.tree.Around.TheVariants.{Behind, Left, Right}
use Rattle.step_trees.specs.Alike.{AreAlike}
use Rattle.step_trees.specs.Held.{within, inside}
use Rattle.step_trees.specs.Standing.{HasEnded, MayStep, candidates, stands_at, stands_on, standing_from}
use Rattle.step_trees.specs.Windows.{TreeLies}
use Rattle.step_trees.proofs.Steps.{Step, step_from, step_to, ready_steps, others_stay, below_if, above_if}

-- and back
pub alike-back : {t u : Tree} → AreAlike t u → AreAlike u t
alike-back AreAlike.same = AreAlike.same
alike-back AreAlike.left_first = AreAlike.right_first
alike-back AreAlike.right_first = AreAlike.left_first
alike-back (AreAlike.sides g h) = AreAlike.sides (alike-back g) (alike-back h)
alike-back (AreAlike.waits g) = AreAlike.waits (alike-back g)
alike-back (AreAlike.through g h) = AreAlike.through (alike-back h) (alike-back g)

pub alike-is : {t u : Tree} → t ≡ u → AreAlike t u
alike-is {t} e = subst (AreAlike t) e AreAlike.same

-- the number of leaves that may step is equal, and all leaves are done in both trees or in neither

pub alike-ready : {t u : Tree} → AreAlike t u → ready t ≡ ready u
alike-ready AreAlike.same = refl
alike-ready (AreAlike.left_first {t = t} {u = u} {v = v}) = omega arith
alike-ready (AreAlike.right_first {t = t} {u = u} {v = v}) = omega arith
alike-ready (AreAlike.sides g h) = let left = alike-ready g in let right = alike-ready h in omega (arith, left, right)
alike-ready (AreAlike.waits g) = alike-ready g
alike-ready (AreAlike.through g h) = alike-ready g ∙ alike-ready h

pub alike-done : {t u : Tree} → AreAlike t u → all_done t ≡ all_done u
alike-done AreAlike.same = refl
alike-done (AreAlike.left_first {t = t} {u = u} {v = v}) = and_assoc (all_done t) (all_done u) (all_done v)
alike-done (AreAlike.right_first {t = t} {u = u} {v = v}) = sym (and_assoc (all_done t) (all_done u) (all_done v))
alike-done (AreAlike.sides {u = u} {v = v} g h) =
    ap (λ b. b && all_done v) (alike-done g) ∙ ap (λ b. all_done u && b) (alike-done h)
alike-done (AreAlike.waits g) = refl
alike-done (AreAlike.through g h) = alike-done g ∙ alike-done h

-- what leaves give from left to right, with `told` for each tree

alike-told : {A : Type 0} (told : Tree → List A) → ((t u : Tree) → told (Beside t u) ≡ told t ++ told u)
    → ((t : Tree) (x : Handler) (k : Leaf) → told (AndThen t x k) ≡ told t) → {t u : Tree} → AreAlike t u → told t ≡ told u
alike-told told two one AreAlike.same = refl
alike-told told two one (AreAlike.left_first {t = t} {u = u} {v = v}) =
    two (Beside t u) v ∙ ap (λ l. l ++ told v) (two t u) ∙ append_assoc (told t) (told u) (told v)
    ∙ ap (λ l. told t ++ l) (sym (two u v)) ∙ sym (two t (Beside u v))
alike-told told two one (AreAlike.right_first {t = t} {u = u} {v = v}) =
    two t (Beside u v) ∙ ap (λ l. told t ++ l) (two u v) ∙ sym (append_assoc (told t) (told u) (told v))
    ∙ ap (λ l. l ++ told v) (sym (two t u)) ∙ sym (two (Beside t u) v)
alike-told told two one (AreAlike.sides {t = t} {u = u} {v = v} {w = w} g h) =
    two t v ∙ ap (λ l. l ++ told v) (alike-told told two one g) ∙ ap (λ l. told u ++ l) (alike-told told two one h) ∙ sym (two u w)
alike-told told two one (AreAlike.waits {t = t} {u = u} {h = x} {k = k} g) =
    one t x k ∙ alike-told told two one g ∙ sym (one u x k)
alike-told told two one (AreAlike.through g h) = alike-told told two one g ∙ alike-told told two one h

alike-lines : {t u : Tree} → AreAlike t u → lines_of t ≡ lines_of u
alike-lines = alike-told lines_of (λ t u. refl) (λ t x k. refl)

alike-faults : {t u : Tree} → AreAlike t u → faults_of t ≡ faults_of u
alike-faults = alike-told faults_of (λ t u. refl) (λ t x k. refl)

pub alike-candidates : {t u : Tree} → AreAlike t u → candidates t ≡ candidates u
alike-candidates = alike-told candidates (λ t u. refl) (λ t x k. refl)

alike-owner : {t u : Tree} → AreAlike t u → rightmost t ≡ rightmost u
alike-owner AreAlike.same = refl
alike-owner AreAlike.left_first = refl
alike-owner AreAlike.right_first = refl
alike-owner (AreAlike.sides g h) = alike-owner h
alike-owner (AreAlike.waits g) = refl
alike-owner (AreAlike.through g h) = alike-owner g ∙ alike-owner h

-- what waits for their end continues in the same way
alike-closed : {t u : Tree} (x : Handler) (k : Leaf) → AreAlike t u → closed t x k ≡ closed u x k
alike-closed {t} {u} x k g =
    ap (λ (o : Leaf). with (task_environment o) o.spawned (lines_of t) (faults_of t)) (alike-owner g)
    ∙ ap (λ (ls : List (List ℤ)). with (task_environment (rightmost u)) (rightmost u).spawned ls (faults_of t)) (alike-lines g)
    ∙ ap (λ (fs : List Fault). with (task_environment (rightmost u)) (rightmost u).spawned (lines_of u) fs) (alike-faults g)
  where
    with : Environment → ℕ → List (List ℤ) → List Fault → Leaf
    with e n ls fs = after_faults x fs (record k { environment = e; spawned = n; lines = ls; faults = fs })

alike-then : {t u : Tree} (x : Handler) (k : Leaf) → AreAlike t u → AreAlike (and_then t x k) (and_then u x k)
alike-then {t} {u} x k g = subst (λ b. AreAlike (and_then t x k) (if b then Single (closed u x k) else AndThen u x k)) (alike-done g) (by (all_done t))
  where
    by : (b : Bool) → AreAlike (if b then Single (closed t x k) else AndThen t x k) (if b then Single (closed u x k) else AndThen u x k)
    by true = alike-is (ap Single (alike-closed x k g))
    by false = AreAlike.waits g

-- within others

alike-within : (x : Around) {t u : Tree} → AreAlike t u → AreAlike (within x t) (within x u)
alike-within (Behind w) g = alike-then (handler_of w.handler) (leaf_of w.leaf) g
alike-within (Right r) g = AreAlike.sides g AreAlike.same
alike-within (Left l) g = AreAlike.sides AreAlike.same g

pub alike-inside : (xs : List Around) {t u : Tree} → AreAlike t u → AreAlike (inside xs t) (inside xs u)
alike-inside [] g = g
alike-inside (x ∷ xs) g = alike-within x (alike-inside xs g)

-- a tree of two sides, each of which is joined with its neighbour
pub alike-parted : {t u l r v w f s : Tree} → t ≡ Beside v w → v ≡ Beside l f → w ≡ Beside s r → u ≡ Beside f s
    → AreAlike t (Beside l (Beside u r))
alike-parted {t} {u} {l} {r} {v} {w} {f} {s} e g h i =
    subst (λ u. AreAlike t (Beside l (Beside u r))) (sym i)
    (AreAlike.through (alike-is (e ∙ ap (λ v. Beside v w) g ∙ ap (Beside (Beside l f)) h))
    (AreAlike.through AreAlike.left_first (AreAlike.sides AreAlike.same AreAlike.right_first)))

module _ (p : Program) where
  -- a step of the one is a step of the other, to a tree that is alike
  pub record StepsAlike (n : ℕ) (k : Leaf) (u : Tree) (a : Contents) (v : Tree) (b : Contents) : Type 0 where
    pub tree : Tree
    pub step : Step p n k u a tree b
    pub alike : AreAlike v tree

  pub alike-step : {t u : Tree} → AreAlike t u → {n : ℕ} {k : Leaf} {a b : Contents} {v : Tree} → Step p n k t a v b
      → StepsAlike n k u a v b
  alike-step AreAlike.same s = record { tree = _; step = s; alike = AreAlike.same }
  alike-step AreAlike.left_first (Step.left (Step.left s)) = record { tree = _; step = Step.left s; alike = AreAlike.left_first }
  alike-step AreAlike.left_first (Step.left (Step.right e s)) =
      record { tree = _; step = Step.right e (Step.left s); alike = AreAlike.left_first }
  alike-step (AreAlike.left_first {t = t} {u = u}) (Step.right {n = n} {m = m} e s) =
      let more : n ≡ ready t + (ready u + m) = omega (arith, e) in
      record { tree = _; step = Step.right more (Step.right refl s); alike = AreAlike.left_first }
  alike-step AreAlike.right_first (Step.left s) =
      record { tree = _; step = Step.left (Step.left s); alike = AreAlike.right_first }
  alike-step AreAlike.right_first (Step.right e (Step.left s)) =
      record { tree = _; step = Step.left (Step.right e s); alike = AreAlike.right_first }
  alike-step (AreAlike.right_first {t = t} {u = u}) (Step.right {n = n} e (Step.right {m = m} f s)) =
      let more : n ≡ (ready t + ready u) + m = omega (arith, e, f) in
      record { tree = _; step = Step.right more s; alike = AreAlike.right_first }
  alike-step (AreAlike.sides g h) (Step.left s) =
      let r = alike-step g s in record { tree = _; step = Step.left r.step; alike = AreAlike.sides r.alike h }
  alike-step (AreAlike.sides {t = t} {u = u} g h) (Step.right {n = n} {m = m} e s) =
      let r = alike-step h s in let same = alike-ready g in
      let more : n ≡ ready u + m = omega (arith, e, same) in
      record { tree = _; step = Step.right more r.step; alike = AreAlike.sides g r.alike }
  alike-step (AreAlike.waits {h = x} {k = k} g) (Step.first s e) =
      let r = alike-step g s in
      record { tree = _; step = Step.first r.step refl; alike = subst (λ v. AreAlike v (and_then r.tree x k)) (sym e) (alike-then x k r.alike) }
  alike-step (AreAlike.through g h) s =
      let r = alike-step g s in let q = alike-step h r.step in
      record { tree = q.tree; step = q.step; alike = AreAlike.through r.alike q.alike }

  -- the same fact, for the n-th leaf that may step
  pub record ComesAlike (n : ℕ) (u : Tree) (a : Contents) (v : Tree) (b : Contents) : Type 0 where
    pub tree : Tree
    pub step : step p n u a ≡ Some (tree, b)
    pub alike : AreAlike v tree

  pub alike-comes : (n : ℕ) {t u : Tree} (a : Contents) {v : Tree} {b : Contents} → AreAlike t u → step p n t a ≡ Some (v, b)
      → ComesAlike n u a v b
  alike-comes n {t} a {v} {b} g e =
      let r = alike-step g (step_from p t n a v b e).1 in
      record { tree = r.tree; step = step_to p r.step; alike = r.alike }

  -- if the windows of one tree lie in their arrays, so do the windows of the other
  pub alike-lies : {t u : Tree} → AreAlike t u → TreeLies p t → TreeLies p u
  alike-lies AreAlike.same l = l
  alike-lies AreAlike.left_first l = (l.0.0, (l.0.1, l.1))
  alike-lies AreAlike.right_first l = ((l.0, l.1.0), l.1.1)
  alike-lies (AreAlike.sides g h) l = (alike-lies g l.0, alike-lies h l.1)
  alike-lies (AreAlike.waits g) l = (alike-lies g l.0, l.1)
  alike-lies (AreAlike.through g h) l = alike-lies h (alike-lies g l)

  -- both trees have the same result

  alike-telling : {t u : Tree} (a : Contents) → AreAlike t u → told p t a ≡ told p u a
  alike-telling {t} {u} a g =
      ap (λ (b : Bool). if b then Ends (Ended (tree_ending p t a)) else Open (ready t)) (alike-done g)
      ∙ ap (λ (n : ℕ). if all_done u then Ends (Ended (tree_ending p t a)) else Open n) (alike-ready g)
      ∙ ap (λ (ls : List (List ℤ)). if all_done u then Ends (Ended (record (tree_ending p t a) { lines = ls })) else Open (ready u)) (alike-lines g)
      ∙ ap (λ (fs : List Fault). if all_done u then Ends (Ended (record (tree_ending p u a) { faults = fs })) else Open (ready u)) (alike-faults g)

  pub alike-explored : (n : ℕ) (cs : List ℕ) (t u : Tree) (a : Contents) → AreAlike t u
      → explored_from p n cs t a ≡ explored_from p n cs u a
  alike-explored n [] t u a g = alike-telling a g
  alike-explored n (c ∷ cs) t u a g = by (nat_lt c (ready t)) refl (alike-explored (n + 1) cs)
    where
      by : (z : Bool) → nat_lt c (ready t) ≡ z
          → ((v w : Tree) (b : Contents) → AreAlike v w → explored_from p (n + 1) cs v b ≡ explored_from p (n + 1) cs w b)
          → explored_from p n (c ∷ cs) t a ≡ explored_from p n (c ∷ cs) u a
      by true e more =
          let s = ready_steps p c t a (below_if c (ready t) e) in
          let r = alike-comes c a g s.step in
          ap (goes_on n (explored_from p (n + 1) cs)) s.step ∙ more s.tree r.tree s.store r.alike
          ∙ sym (ap (goes_on n (explored_from p (n + 1) cs)) r.step)
      by false e more =
          let past : ready t ≤ c = above_if c (ready t) e in let same = alike-ready g in
          ap (goes_on n (explored_from p (n + 1) cs)) (others_stay p c t a past)
          ∙ sym (ap (goes_on n (explored_from p (n + 1) cs)) (others_stay p c u a (omega (arith, past, same))))

  -- and both stand at the same place

  alike-stands : {t u : Tree} (a : Contents) → AreAlike t u → stands_at p t a ≡ stands_at p u a
  alike-stands {t} {u} a g =
      ap (λ (b : Bool). if b then HasEnded (Ended (tree_ending p t a)) else MayStep (candidates t)) (alike-done g)
      ∙ ap (λ cs. if all_done u then HasEnded (Ended (tree_ending p t a)) else MayStep cs) (alike-candidates g)
      ∙ ap (λ (ls : List (List ℤ)). if all_done u then HasEnded (Ended (record (tree_ending p t a) { lines = ls })) else MayStep (candidates u)) (alike-lines g)
      ∙ ap (λ (fs : List Fault). if all_done u then HasEnded (Ended (record (tree_ending p u a) { faults = fs })) else MayStep (candidates u)) (alike-faults g)

  pub alike-standing : (n : ℕ) (cs : List ℕ) (t u : Tree) (a : Contents) → AreAlike t u
      → standing_from p n cs t a ≡ standing_from p n cs u a
  alike-standing n [] t u a g = alike-stands a g
  alike-standing n (c ∷ cs) t u a g = by (nat_lt c (ready t)) refl (alike-standing (n + 1) cs)
    where
      by : (z : Bool) → nat_lt c (ready t) ≡ z
          → ((v w : Tree) (b : Contents) → AreAlike v w → standing_from p (n + 1) cs v b ≡ standing_from p (n + 1) cs w b)
          → standing_from p n (c ∷ cs) t a ≡ standing_from p n (c ∷ cs) u a
      by true e more =
          let s = ready_steps p c t a (below_if c (ready t) e) in
          let r = alike-comes c a g s.step in
          ap (stands_on n (standing_from p (n + 1) cs)) s.step ∙ more s.tree r.tree s.store r.alike
          ∙ sym (ap (stands_on n (standing_from p (n + 1) cs)) r.step)
      by false e more =
          let past : ready t ≤ c = above_if c (ready t) e in let same = alike-ready g in
          ap (stands_on n (standing_from p (n + 1) cs)) (others_stay p c t a past)
          ∙ sym (ap (stands_on n (standing_from p (n + 1) cs)) (others_stay p c u a (omega (arith, past, same))))
