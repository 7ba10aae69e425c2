-- Runs in which the first leaf that may step always steps.
use Rattle.std.proofs.Common.{◌≡◌, ℕ, zero, suc, ◌+◌, ◌<◌, List, refl, sym, ap, ◌∙◌, subst, arith}
use Rattle.std.specs.Prelude.{Bool, true, false, if◌then◌else◌}
use Rattle.std.proofs.lemmas.Bool.{and_parts}
use Rattle.shared_lemmas.proofs.Truths.{true_false}
use Rattle.types.specs.Code.{Codes, End, Then, Program}
use Rattle.types.specs.Contents.{Contents}
use Rattle.types.specs.Trees.{Leaf, Handler, Tree, Single, AndThen, Beside, is_done, all_done, ready, and_then, closed}
use Rattle.types.specs.TreeSteps.{tree_after, store_after}
use Rattle.types.specs.TreeRuns.{Runs, here, next}
use Rattle.effects.specs.Sound.{IsSound}
use Rattle.race_checker.specs.Clash.{IsAccepted}
use Rattle.race_checker.proofs.Calming.{is_calm}
use Rattle.step_trees.proofs.Steps.{Step, step_from, step_below}
use Rattle.step_trees.proofs.GoodTrees.{Good, step_kept}
use Rattle.step_trees.proofs.CommutingSteps.{one_step}

module _ (p : Program) where
  pub data LeftRun : ℕ → Tree → Contents → Tree → Contents → Type 0 where
    ended : {t : Tree} {a : Contents} → LeftRun 0 t a t a
    goes : {n : ℕ} {k : Leaf} {t u v : Tree} {a b c : Contents} → Step p 0 k t a u b → LeftRun n u b v c
        → LeftRun (suc n) t a v c

  -- a tree with a leaf that may step has a first one
  first_leaf : (c : Codes) (k : Leaf) (a : Contents) → k.rest ≡ c → ◌<◌ 0 (if is_done c then 0 else 1)
      → (u : Tree) × (b : Contents) × Step p 0 k (Single k) a u b
  first_leaf End k a e h = absurd (omega arith)
  first_leaf (Then l s rest) k a e h =
      (tree_after p l s (record k { rest = rest }) a, store_after p l s (record k { rest = rest }) a, Step.here e refl refl)

  pub first_step : (t : Tree) (a : Contents) → 0 < ready t
      → (k : Leaf) × (u : Tree) × (b : Contents) × Step p 0 k t a u b
  first_step (Single k) a h = let s = first_leaf k.rest k a refl h in (k, s.0, s.1, s.2)
  first_step (AndThen t x j) a h = let s = first_step t a h in (s.0, and_then s.1 x j, s.2, Step.first s.3 refl)
  first_step (Beside t u) a h = by (ready t) refl (first_step t a) (first_step u a)
    where
      by : (n : ℕ) → ready t ≡ n → (0 < ready t → (k : Leaf) × (v : Tree) × (b : Contents) × Step p 0 k t a v b)
          → (0 < ready u → (k : Leaf) × (v : Tree) × (b : Contents) × Step p 0 k u a v b)
          → (k : Leaf) × (v : Tree) × (b : Contents) × Step p 0 k (Beside t u) a v b
      by zero e f g = let s = g (omega arith) in (s.0, Beside t s.1, s.2, Step.right (omega arith) s.3)
      by (suc n) e f g = let s = f (omega arith) in (s.0, Beside s.1 u, s.2, Step.left s.3)

  -- a tree in which none may step stays
  pub stuck : {n : ℕ} {t u : Tree} {a b : Contents} → ready t ≡ 0 → LeftRun n t a u b → (n ≡ 0) × (u ≡ t) × (b ≡ a)
  stuck e ended = (refl, refl, refl)
  stuck e (goes s r) = absurd (let h = step_below p s in omega arith)

  -- A run of a tree to its end, and what comes after it in the remaining steps

  pub record Ended (n : ℕ) (t : Tree) (a : Contents) (Behind : ℕ → Tree → Contents → Type 0) : Type 0 where
    pub first_count : ℕ
    pub second_count : ℕ
    pub count : first_count + second_count ≡ n
    pub middle : Contents
    pub tree : Tree
    pub first : LeftRun first_count t a tree middle
    pub done : all_done tree ≡ true
    pub behind : Behind second_count tree middle

  at_end : {n m : ℕ} {t : Tree} {a : Contents} {Behind : ℕ → Tree → Contents → Type 0} → m ≡ n → all_done t ≡ true
      → Behind m t a → Ended n t a Behind
  at_end {m = m} {t = t} {a = a} e done behind = record {
    first_count = 0;
    second_count = m;
    count = omega (arith, e);
    middle = a;
    tree = t;
    first = ended;
    done = done;
    behind = behind;
  }

  one_more : {n : ℕ} {k : Leaf} {t u : Tree} {a b : Contents} {Behind : ℕ → Tree → Contents → Type 0} → Step p 0 k t a u b
      → Ended n u b Behind → Ended (suc n) t a Behind
  one_more s r = record {
    first_count = suc r.first_count;
    second_count = r.second_count;
    count = (let c = r.count in omega arith);
    middle = r.middle;
    tree = r.tree;
    first = goes s r.first;
    done = r.done;
    behind = r.behind;
  }

  -- One tree next to another

  pub record SecondHalf (e : Tree) (z : Contents) (u : Tree) (n : ℕ) (t : Tree) (a : Contents) : Type 0 where
    pub tree : Tree
    pub run : LeftRun n u a tree z
    pub done : all_done tree ≡ true
    pub both : e ≡ Beside t tree

  abbrev pub Halves : (n : ℕ) (t u : Tree) (a : Contents) (e : Tree) (z : Contents) → Type 0
  Halves n t u a e z = Ended n t a (SecondHalf e z u)

  later_half : {n : ℕ} {t u v e : Tree} {a b z : Contents} {k : Leaf} → 0 ≡ ready t → Step p 0 k u a v b
      → Halves n t v b e z → Halves (suc n) t u a e z
  later_half {n = n} {t = t} {u = u} {e = e} {a = a} {z = z} q s h =
      let x = stuck (sym q) h.first in
      at_end {m = suc h.second_count} {Behind = SecondHalf e z u} (let c = h.count in let y = x.0 in omega arith) (ap all_done (sym x.1) ∙ h.done) (record {
        tree = h.behind.tree;
        run = goes s (subst (λ b. LeftRun h.second_count _ b h.behind.tree z) x.2 h.behind.run);
        done = h.behind.done;
        both = h.behind.both ∙ ap (λ t. Beside t h.behind.tree) x.1;
      })

  pub halves : (n : ℕ) {t u e : Tree} {a z : Contents} → LeftRun n (Beside t u) a e z → all_done e ≡ true
      → Halves n t u a e z
  halves zero {t} {u} {a = a} ended d =
      let h = and_parts (all_done t) (all_done u) d in
      at_end {Behind = SecondHalf (Beside t u) a u} refl h.0 (record { tree = u; run = ended; done = h.1; both = refl })
  halves (suc n) (goes (Step.left s) r) d = one_more s (halves n r d)
  halves (suc n) (goes (Step.right {m = m} {k = k} {t = t} {v = v} {w = w} {a = a} {b = b} e s) r) d =
      later_half (omega arith) (subst (λ m. Step p m k v a w b) (omega arith) s) (halves n r d)

  -- A finish

  abbrev pub Finished : (n : ℕ) (t : Tree) (x : Handler) (j : Leaf) (a : Contents) (e : Tree) (z : Contents) → Type 0
  Finished n t x j a e z = Ended n t a (λ m u b. LeftRun m (Single (closed u x j)) b e z)

  pub finished : (n : ℕ) (t : Tree) (x : Handler) (j : Leaf) (b : Bool) → all_done t ≡ b → (a : Contents) (e : Tree) (z : Contents)
      → LeftRun n (if b then Single (closed t x j) else AndThen t x j) a e z → all_done e ≡ true → Finished n t x j a e z
  finished n t x j true h a e z r d = at_end {Behind = λ m u b. LeftRun m (Single (closed u x j)) b e z} refl h r
  finished zero t x j false h a e z ended d = true_false (sym d)
  finished (suc n) t x j false h a e z (goes (Step.first {u = u} {b = b} s q) r) d =
      one_more s (finished n u x j (all_done u) refl b e z (subst (λ w. LeftRun n w b e z) q r) d)

module _ (p : Program) (sound : IsSound p) (accepted : IsAccepted p) where
  -- if a run ends, the first leaves lead to the same end in as many steps
  pub leftmost : (n : ℕ) {t e : Tree} {a z : Contents} → Runs p n t a e z → all_done e ≡ true → (keep : List ℕ)
      → Good p keep t → LeftRun p n t a e z
  leftmost zero here d keep g = LeftRun.ended
  leftmost (suc n) {e = e} {z = z} (next {t = t} {u = u} {a = a} {b = b} m h rest) d keep g =
      let x = step_from p t m a u b h in
      let s = first_step p t a (let y = step_below p x.1 in omega arith) in
      let i = one_step p sound accepted (next m h rest) d keep g 0 s.0 s.1 s.2 s.3 in
      let same : i.0 ≡ n = (let q = i.1 in omega arith) in
      LeftRun.goes s.3 (leftmost n (subst (λ r. Runs p r s.1 s.2 e z) same i.2) d keep (step_kept p sound (is_calm p sound accepted) s.3 keep g).good)
