-- Steps of two leaves commute, so all runs that end have one end.
use Rattle.std.proofs.Common.{◌≡◌, ◌⊎◌, inl, inr, ℕ, suc, ◌+◌, ◌<◌, List, [], ◌∷◌, Some, None, refl, sym, ap, ◌∙◌, subst, arith}
use Rattle.shared_lemmas.proofs.Truths.{true_false}
use Rattle.std.specs.Prelude.{ℤ, Bool, true, false, if◌then◌else◌}
use Rattle.sections.proofs.Windows.{places_same}
use Rattle.sections.specs.Place.{Place, same_place}
use Rattle.types.specs.Code.{Codes, Program}
use Rattle.types.specs.Contents.{Contents, write}
use Rattle.types.specs.Value.{Environment}
use Rattle.types.specs.Trees.{Caller, Leaf, Handler, NoHandler, HandledBy, Tree, Single, AndThen, Beside, all_done, ready, and_then, closed}
use Rattle.types.specs.TreeRuns.{Runs, here, next}
use Rattle.effects.specs.Sound.{IsSound}
use Rattle.effects.proofs.Footprints.{overwrites_touch, turns_write_touch}
use Rattle.race_checker.specs.Clash.{IsAccepted}
use Rattle.race_checker.proofs.Calming.{is_calm}
use Rattle.step_trees.specs.Still.{all, waiting, left_of, in_handler, still}
use Rattle.step_trees.proofs.Steps.{Step, tree_or, store_or, step_from, step_to, step_below}
use Rattle.step_trees.proofs.LocalSteps.{Update, updated, Hits, local}
use Rattle.step_trees.proofs.GoodTrees.{Good, step_kept}
use Rattle.step_trees.proofs.Places.{done_ready}

-- Updates of different places

-- a place that isn't updated has its number
other_place : (u : Update) (a : Contents) (q : Place) → Hits (λ r. r ≡ q → ⊥) u → a q ≡ updated u a q
other_place None a q h = refl
other_place (Some x) a q h = by (same_place x.0 q) refl
  where
    by : (b : Bool) → same_place x.0 q ≡ b → a q ≡ (if b then Some x.1 else a q)
    by true e = absurd (h (places_same x.0 q e))
    by false e = refl

outside : {P T : Place → Type 0} (u : Update) → Hits P u → ((q : Place) → P q → T q → ⊥) → (q : Place) → T q
    → Hits (λ r. r ≡ q → ⊥) u
outside None h f q t = tt
outside {P = P} (Some x) h f q t = λ e. f q (subst P e h) t

writes_commute : (q r : Place) (v w : ℤ) (a : Contents) → (q ≡ r → ⊥)
    → write q v (write r w a) ≡ write r w (write q v a)
writes_commute q r v w a h = λ i s. by s (same_place q s) (same_place r s) refl refl i
  where
    by : (s : Place) (b c : Bool) → same_place q s ≡ b → same_place r s ≡ c
        → (if b then Some v else if c then Some w else a s) ≡ (if c then Some w else if b then Some v else a s)
    by s true true e f = absurd (h (places_same q s e ∙ sym (places_same r s f)))
    by s true false e f = refl
    by s false true e f = refl
    by s false false e f = refl

updates_commute : {P Q : Place → Type 0} (u v : Update) (a : Contents) → Hits P u → Hits Q v
    → ((q : Place) → P q → Q q → ⊥)
    → updated v (updated u a) ≡ updated u (updated v a)
updates_commute None v a h k f = refl
updates_commute (Some x) None a h k f = refl
updates_commute {P = P} (Some x) (Some y) a h k f = writes_commute y.0 x.0 y.1 x.1 a (λ e. f y.0 (subst P (sym e) h) k)

all_touch : (p : Program) (env : Environment) (b : Codes) (q : Place) → (all p env b).writes q → (all p env b).touches q
all_touch p env b q (inl h) = inl (overwrites_touch _ _ q h)
all_touch p env b q (inr h) = inr (turns_write_touch p env b q h)

waiting_touch : (p : Program) (fs : List Caller) (q : Place) → (waiting p fs).writes q → (waiting p fs).touches q
waiting_touch p [] q h = h
waiting_touch p (f ∷ fs) q (inl h) = inl (all_touch p f.environment f.rest q h)
waiting_touch p (f ∷ fs) q (inr h) = inr (waiting_touch p fs q h)

left_touch : (p : Program) (k : Leaf) (q : Place) → (left_of p k).writes q → (left_of p k).touches q
left_touch p k q (inl h) = inl (all_touch p k.environment k.rest q h)
left_touch p k q (inr h) = inr (waiting_touch p k.callers q h)

handler_touch : (p : Program) (env : Environment) (x : Handler) (q : Place) → (in_handler p env x).writes q
    → (in_handler p env x).touches q
handler_touch p env NoHandler q h = h
handler_touch p env (HandledBy x c) q h = all_touch p env c q h

pub writes_touch : (p : Program) (t : Tree) (q : Place) → (still p t).writes q → (still p t).touches q
writes_touch p (Single k) q h = left_touch p k q h
writes_touch p (AndThen t x k) q (inl h) = inl (writes_touch p t q h)
writes_touch p (AndThen t x k) q (inr (inl h)) = inr (inl (handler_touch p k.environment x q h))
writes_touch p (AndThen t x k) q (inr (inr h)) = inr (inr (left_touch p k q h))
writes_touch p (Beside t u) q (inl h) = inl (writes_touch p t q h)
writes_touch p (Beside t u) q (inr h) = inr (writes_touch p u q h)

module _ (p : Program) where
  pub not_done : {n : ℕ} {k : Leaf} {t u : Tree} {a b : Contents} → Step p n k t a u b → all_done t ≡ false
  not_done {t = t} s = by (all_done t) refl
    where
      by : (b : Bool) → all_done t ≡ b → all_done t ≡ false
      by true e = absurd (let h = step_below p s in let x = done_ready t e in omega arith)
      by false e = e

  still_then : {n : ℕ} {k : Leaf} {t u : Tree} {a b : Contents} (x : Handler) (j : Leaf) → Step p n k t a u b
      → AndThen t x j ≡ and_then t x j
  still_then {t = t} x j s = ap (λ z. if z then Single (closed t x j) else AndThen t x j) (sym (not_done s))

  -- the two orders of a step of k that led to u and b, and a step of j that led to v and c
  pub record Orders (m : ℕ) (k j : Leaf) (u : Tree) (b : Contents) (v : Tree) (c : Contents) : Type 0 where
    pub tree : Tree
    pub store : Contents
    pub number : ℕ
    pub second : Step p number j u b tree store
    pub first : Step p m k v c tree store

  -- the leaf k is to the left of j
  pub commute : {m n : ℕ} {k j : Leaf} {t u v : Tree} {a b c : Contents} → Step p m k t a u b → Step p n j t a v c
      → m < n
      → (keep : List ℕ) → Good p keep t → Orders m k j u b v c
  commute (Step.here r e f) (Step.here r2 e2 f2) h keep g = absurd (omega arith)
  commute (Step.first {n = m} {k = k} {x = x} {j = i} {b = b} s e) (Step.first {k = j} {b = c} s2 e2) h keep (Good.is_then scope st handler g same) =
      let o = commute s s2 h scope g in
      record {
        tree = and_then o.tree x i;
        store = o.store;
        number = o.number;
        second = subst (λ v. Step p o.number j v b (and_then o.tree x i) o.store) (still_then x i o.second ∙ sym e) (Step.first o.second refl);
        first = subst (λ v. Step p m k v c (and_then o.tree x i) o.store) (still_then x i o.first ∙ sym e2) (Step.first o.first refl);
      }
  commute (Step.left s) (Step.left s2) h keep (Good.is_beside {other = other} g g2 apart) =
      let o = commute s s2 h other g in
      record { tree = Beside o.tree _; store = o.store; number = o.number; second = Step.left o.second; first = Step.left o.first }
  commute (Step.right {t = t} e s) (Step.right e2 s2) h keep (Good.is_beside g g2 apart) =
      let o = commute s s2 (omega arith) keep g2 in
      record { tree = Beside t o.tree; store = o.store; number = ready t + o.number; second = Step.right refl o.second; first = Step.right e o.first }
  commute (Step.right e s) (Step.left s2) h keep g = absurd (let x = step_below p s2 in omega arith)
  commute (Step.left {n = n} {k = k} {t = t} {u = u} {v = x} {a = a} {b = b} s) (Step.right {m = m} {w = y} {b = c} e s2) h keep (Good.is_beside g g2 apart) =
      let l1 = local p s in
      let l2 = local p s2 in
      let at_b = l2.elsewhere b (λ q t. other_place l1.update a q (outside l1.update l1.writes apart.writes_first q t) ∙ ap (λ (a : Contents). a q) (sym l1.store)) in
      let at_c = l1.elsewhere c (λ q t. other_place l2.update a q (outside l2.update l2.writes (λ q w t. apart.writes_second q t w) q t) ∙ ap (λ (a : Contents). a q) (sym l2.store)) in
      let same : updated l1.update c ≡ updated l2.update b =
      ap (updated l1.update) l2.store
      ∙ sym (updates_commute l1.update l2.update a l1.writes l2.writes (λ q w w2. apart.writes_first q w (writes_touch p x q w2)))
      ∙ ap (updated l2.update) (sym l1.store) in
      record {
        tree = Beside u y;
        store = updated l2.update b;
        number = ready u + m;
        second = Step.right refl at_b;
        first = subst (λ d. Step p n k (Beside t y) c (Beside u y) d) same (Step.left at_c);
      }

either_way : (m n : ℕ) → (m < n) ⊎ ((n < m) ⊎ (m ≡ n))
either_way m n = grind arith

module _ (p : Program) where
  -- a run continues to an end from another tree, in one step less
  abbrev pub EndsFrom : ℕ → Tree → Contents → Tree → Contents → Type 0
  EndsFrom n u b e z = (r : ℕ) × (n ≡ suc r) × Runs p r u b e z

  one_leaf : {n : ℕ} {k j : Leaf} {t u v : Tree} {a b c : Contents} → Step p n k t a u b → Step p n j t a v c
      → (u ≡ v) × (b ≡ c)
  one_leaf {u = u} {b = b} s s2 =
      let e = sym (step_to p s) ∙ step_to p s2 in
      (ap (tree_or u) e, ap (store_or b) e)

  other_way : {m n r : ℕ} {k j : Leaf} {t u v e : Tree} {a b c z : Contents} → Step p m k t a u b → Step p n j t a v c
      → (keep : List ℕ) → Good p keep t
      → Runs p r v c e z → ((m : ℕ) (k : Leaf) (w : Tree) (d : Contents) → Step p m k v c w d → EndsFrom r w d e z)
      → (m < n) ⊎ ((n < m) ⊎ (m ≡ n)) → EndsFrom (suc r) u b e z
  other_way {m = m} {k = k} s s2 keep g rest deeper (inl h) =
      let o = commute p s s2 h keep g in
      let i = deeper m k o.tree o.store o.first in
      (suc i.0, ap suc i.1, next o.number (step_to p o.second) i.2)
  other_way {m = m} {k = k} s s2 keep g rest deeper (inr (inl h)) =
      let o = commute p s2 s h keep g in
      let i = deeper o.number k o.tree o.store o.second in
      (suc i.0, ap suc i.1, next _ (step_to p o.first) i.2)
  other_way {m = m} {r = r} {k = k} {t = t} {u = u} {e = e} {a = a} {b = b} {c = c} {z = z} s s2 keep g rest deeper (inr (inr h)) =
      let i = one_leaf (subst (λ m. Step p m k t a u b) h s) s2 in
      (r, refl, subst (λ b. Runs p r u b e z) (sym i.1) (subst (λ u. Runs p r u c e z) (sym i.0) rest))

module _ (p : Program) (sound : IsSound p) (accepted : IsAccepted p) where
  -- if another leaf can step, the run continues to the same end
  pub one_step : {n : ℕ} {t e : Tree} {a z : Contents} → Runs p n t a e z → all_done e ≡ true → (keep : List ℕ)
      → Good p keep t
      → (m : ℕ) (k : Leaf) (u : Tree) (b : Contents) → Step p m k t a u b → EndsFrom p n u b e z
  one_step here d keep g m k u b s = absurd (true_false (sym d ∙ not_done p s))
  one_step (next {t = t} {u = v} {a = a} {b = c} n h rest) d keep g m k u b s =
      let x = step_from p t n a v c h in
      other_way p s x.1 keep g rest (one_step rest d keep (step_kept p sound (is_calm p sound accepted) x.1 keep g).good) (either_way m n)

  -- if one run ends, each run can continue to the same end, and ends there after as many steps
  pub ends_alike : {m : ℕ} {t u : Tree} {a b : Contents} → Runs p m t a u b → (n : ℕ) (e : Tree) (z : Contents)
      → Runs p n t a e z → all_done e ≡ true
      → (keep : List ℕ) → Good p keep t → (r : ℕ) × (m + r ≡ n) × Runs p r u b e z
  ends_alike here n e z r d keep g = (n, omega arith, r)
  ends_alike (next {t = t} {u = v} {a = a} {b = c} m h rest) n e z r d keep g =
      let x = step_from p t m a v c h in
      let i = one_step r d keep g m x.0 v c x.1 in
      let j = ends_alike rest i.0 e z i.2 d keep (step_kept p sound (is_calm p sound accepted) x.1 keep g).good in
      (j.0, (let f = i.1 in let h = j.1 in omega arith), j.2)
