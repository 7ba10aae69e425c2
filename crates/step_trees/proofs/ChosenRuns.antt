-- The result of given choices is the result of a run.
use Rattle.std.proofs.Common.{◌≡◌, ℕ, zero, suc, ◌+◌, ◌<◌, List, [], ◌∷◌, length, Option, Some, None, refl, ap, ◌∙◌, subst, arith}
use Rattle.std.specs.Prelude.{ℤ, Bool, true, false, replicate, if◌then◌else◌}
use Rattle.types.specs.Code.{Program}
use Rattle.types.specs.Contents.{Contents, held_by}
use Rattle.types.specs.Outcome.{Budget, IsLarger, Outcome, Ended, outcome}
use Rattle.types.specs.Trees.{Tree, all_done, ready}
use Rattle.types.specs.TreeSteps.{step, first_tree}
use Rattle.types.specs.TreeRuns.{Runs, here, next, Explored, Ends, Open, NoSuchChoice, tree_ending, goes_on, explored_from, explored}
use Rattle.effects.specs.Sound.{IsSound}
use Rattle.race_checker.specs.Clash.{IsAccepted}
use Rattle.step_trees.specs.Laws.{HasLawfulParts, EndsBy, OpensBy, MissesBy, Chosen}
use Rattle.step_trees.proofs.Steps.{step_from}
use Rattle.step_trees.proofs.NoDeadlock.{deadlock_free}
use Rattle.step_trees.proofs.FirstLeaves.{LeftRun}
use Rattle.step_trees.proofs.OneThread.{left_run_ends}
use Rattle.step_trees.proofs.ReachedTrees.{ends_as_one}

abbrev outcome_or : Outcome → Explored → Outcome
outcome_or o (Ends x) = x
outcome_or o (Open n) = o
outcome_or o (NoSuchChoice n) = o

abbrev leaves_or : ℕ → Explored → ℕ
leaves_or m (Ends x) = m
leaves_or m (Open n) = n
leaves_or m (NoSuchChoice n) = m

abbrev choice_or : ℕ → Explored → ℕ
choice_or m (Ends x) = m
choice_or m (Open n) = m
choice_or m (NoSuchChoice n) = n

module _ (p : Program) where
  told_ends : (t : Tree) (a : Contents) (o : Outcome) (z : Bool) → all_done t ≡ z
      → (if z then Ends (Ended (tree_ending p t a)) else Open (ready t)) ≡ Ends o → (all_done t ≡ true) × (Ended (tree_ending p t a) ≡ o)
  told_ends t a o true h e = (h, ap (outcome_or o) e)
  told_ends t a o false h e = cc

  pub told_open : (t : Tree) (a : Contents) (m : ℕ) (z : Bool) → all_done t ≡ z
      → (if z then Ends (Ended (tree_ending p t a)) else Open (ready t)) ≡ Open m → (all_done t ≡ false) × (ready t ≡ m)
  told_open t a m true h e = cc
  told_open t a m false h e = (h, ap (leaves_or m) e)

  -- a run of this number of steps leads to a tree with this result
  abbrev Told : (count : ℕ) → Tree → Contents → Explored → Type 0
  Told n t a (Ends o) = EndsBy p n t a o
  Told n t a (Open m) = OpensBy p n t a m
  Told n t a (NoSuchChoice m) = Unit {0}

  told_now : (t : Tree) (a : Contents) (z : Bool) → all_done t ≡ z
      → Told 0 t a (if z then Ends (Ended (tree_ending p t a)) else Open (ready t))
  told_now t a true h = record { tree = t; store = a; runs = here; done = h; same = refl }
  told_now t a false h = record { tree = t; store = a; runs = here; open_yet = h; same = refl }

  -- one step more in front
  told_behind : (n c : ℕ) (t : Tree) (a : Contents) (x : Tree × Contents) (e : Explored)
      → step p c t a ≡ Some x
      → Told n x.0 x.1 e → Told (suc n) t a e
  told_behind n c t a x (Ends o) h r =
      record { tree = r.tree; store = r.store; runs = next c h r.runs; done = r.done; same = r.same }
  told_behind n c t a x (Open m) h r =
      record { tree = r.tree; store = r.store; runs = next c h r.runs; open_yet = r.open_yet; same = r.same }
  told_behind n c t a x (NoSuchChoice m) h r = tt

  told_by : (cs : List ℕ) (i : ℕ) (t : Tree) (a : Contents) → Told (length cs) t a (explored_from p i cs t a)
  told_by [] i t a = told_now t a (all_done t) refl
  told_by (c ∷ cs) i t a = by (step p c t a) refl (told_by cs (i + 1))
    where
      by : (s : Option (Tree × Contents)) → step p c t a ≡ s
          → ((u : Tree) (b : Contents) → Told (length cs) u b (explored_from p (i + 1) cs u b))
          → Told (suc (length cs)) t a (goes_on i (explored_from p (i + 1) cs) s)
      by None h f = tt
      by (Some x) h f = told_behind (length cs) c t a x (explored_from p (i + 1) cs x.0 x.1) h (f x.0 x.1)

  pub ends_by : (cs : List ℕ) (i : ℕ) (t : Tree) (a : Contents) (o : Outcome)
      → explored_from p i cs t a ≡ Ends o
      → EndsBy p (length cs) t a o
  ends_by cs i t a o e = subst (Told (length cs) t a) e (told_by cs i t a)

  pub opens_by : (cs : List ℕ) (i : ℕ) (t : Tree) (a : Contents) (m : ℕ) → explored_from p i cs t a ≡ Open m
      → OpensBy p (length cs) t a m
  opens_by cs i t a m e = subst (Told (length cs) t a) e (told_by cs i t a)

  pub told_misses : (t : Tree) (a : Contents) (n : ℕ) (z : Bool) {A : Type 0}
      → (if z then Ends (Ended (tree_ending p t a)) else Open (ready t)) ≡ NoSuchChoice n → A
  told_misses t a n true e = cc
  told_misses t a n false e = cc

  missed : (cs : List ℕ) (i n : ℕ) (t : Tree) (a : Contents) → explored_from p i cs t a ≡ NoSuchChoice n
      → (m : ℕ) × (i + m ≡ n) × MissesBy p cs m t a
  missed [] i n t a e = told_misses t a n (all_done t) e
  missed (c ∷ cs) i n t a e = by (step p c t a) refl e (λ u b. missed cs (i + 1) n u b)
    where
      by : (s : Option (Tree × Contents)) → step p c t a ≡ s → goes_on i (explored_from p (i + 1) cs) s ≡ NoSuchChoice n
          → ((u : Tree) (b : Contents) → explored_from p (i + 1) cs u b ≡ NoSuchChoice n
          → (m : ℕ) × (i + 1 + m ≡ n) × MissesBy p cs m u b) → (m : ℕ) × (i + m ≡ n) × MissesBy p (c ∷ cs) m t a
      by None h e f = (
        0,
        (let same : i ≡ n = ap (choice_or i) e in omega (arith, same)),
        record { tree = t; store = a; runs = here; choice = c; given = refl; missing = h },
      )
      by (Some x) h e f =
          let r = f x.0 x.1 e in
          let same : i + 1 + r.0 ≡ n = r.1 in
          let m = r.2 in (
            suc r.0,
            omega (arith, same),
            record {
              tree = m.tree;
              store = m.store;
              runs = next c h m.runs;
              choice = m.choice;
              given = m.given;
              missing = m.missing;
            },
          )

  pub misses_by : (cs : List ℕ) (n : ℕ) (t : Tree) (a : Contents) → explored_from p 0 cs t a ≡ NoSuchChoice n
      → MissesBy p cs n t a
  misses_by cs n t a e = let r = missed cs 0 n t a e in subst (λ m. MissesBy p cs m t a) (let same : 0 + r.0 ≡ n = r.1 in omega (arith, same)) r.2

  -- a result is open only if a leaf may step
  pub open_has_leaf : (input : List (List ℤ)) (cs : List ℕ) (m : ℕ) → explored p input cs ≡ Open m → 0 < m
  open_has_leaf input cs m e =
      let r = opens_by cs 0 (first_tree p) (held_by input) m e in
      let h = deadlock_free p (held_by input) r.tree r.store (length cs, r.runs) r.open_yet in
      let same = r.same in
      omega arith

  -- each run is one by some choices
  pub chosen : {n : ℕ} {t u : Tree} {a b : Contents} → Runs p n t a u b → Chosen p n t a u b
  chosen here = record { choices = []; count = refl; explores = λ i. refl }
  chosen (next c e r) =
      let m = chosen r in
      record {
        choices = c ∷ m.choices;
        count = ap suc m.count;
        explores = λ i. ap (goes_on i (explored_from p (i + 1) m.choices)) e ∙ m.explores (i + 1);
      }

  -- the first leaf always steps
  record LeftEnds (n : ℕ) (t : Tree) (a : Contents) (o : Outcome) : Type 0 where
    tree : Tree
    store : Contents
    runs : LeftRun p n t a tree store
    done : all_done tree ≡ true
    same : Ended (tree_ending p tree store) ≡ o

  left_ends : (n i : ℕ) (t : Tree) (a : Contents) (o : Outcome) → explored_from p i (replicate n 0) t a ≡ Ends o
      → LeftEnds n t a o
  left_ends zero i t a o e =
      let h = told_ends t a o (all_done t) refl e in
      record { tree = t; store = a; runs = LeftRun.ended; done = h.0; same = h.1 }
  left_ends (suc n) i t a o e = by (step p 0 t a) refl e (λ u b. left_ends n (i + 1) u b o)
    where
      by : (s : Option (Tree × Contents)) → step p 0 t a ≡ s
          → goes_on i (explored_from p (i + 1) (replicate n 0)) s ≡ Ends o
          → ((u : Tree) (b : Contents) → explored_from p (i + 1) (replicate n 0) u b ≡ Ends o → LeftEnds n u b o) → LeftEnds (suc n) t a o
      by None h e f = cc
      by (Some x) h e f =
          let r = f x.0 x.1 e in
          record { tree = r.tree; store = r.store; runs = LeftRun.goes (step_from p t 0 a x.0 x.1 h).1 r.runs; done = r.done; same = r.same }

  -- if each `parts` follows the rules and the first leaf always steps, the result is the one-thread outcome
  pub first_leaves_end : HasLawfulParts p → (input : List (List ℤ)) (n : ℕ) (o : Outcome) → explored p input (replicate n 0) ≡ Ends o
      → (b : Budget) → IsLarger b (record { steps = n; nest = n }) → outcome p input b ≡ o
  first_leaves_end by_rules input n o e b larger =
      let r = left_ends n 0 (first_tree p) (held_by input) o e in
      left_run_ends p by_rules input n r.tree r.store r.runs r.done b larger ∙ r.same

-- for an accepted program, the result of any choices is the one-thread outcome
pub choices_end : (p : Program) → IsSound p → IsAccepted p → (input : List (List ℤ)) (cs : List ℕ) (o : Outcome)
    → explored p input cs ≡ Ends o
    → (b : Budget) → IsLarger b (record { steps = length cs; nest = length cs }) → outcome p input b ≡ o
choices_end p sound accepted input cs o e b larger =
    let r = ends_by p cs 0 (first_tree p) (held_by input) o e in
    ends_as_one p sound accepted input (length cs) r.tree r.store r.runs r.done b larger ∙ r.same
