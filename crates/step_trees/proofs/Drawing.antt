-- Choices that are drawn name leaves. If the run hasn't ended, their number is the maximum.
use Rattle.std.proofs.Common.{◌≡◌, ℕ, zero, suc, ◌+◌, ◌<◌, ◌≤◌, List, [], ◌∷◌, length, Some, refl, sym, ap, ◌∙◌, arith}
use Rattle.std.proofs.lemmas.Bool.{eq-eqb}
use Rattle.std.proofs.lemmas.Bool.Decides.{nat_tests}
use Rattle.std.proofs.Math.Nat.{mod-lt}
use Rattle.std.specs.Prelude.{ℤ, ◌/◌, Bool, false, if◌then◌else◌, nat_eq}
use Rattle.types.specs.Code.{Program}
use Rattle.types.specs.Contents.{Contents, held_by}
use Rattle.types.specs.Outcome.{Budget, IsLarger, Outcome, outcome}
use Rattle.types.specs.Trees.{Tree, all_done, ready}
use Rattle.types.specs.TreeRuns.{Ends, Open, NoSuchChoice, told, explored_from, explored}
use Rattle.types.specs.TreeSteps.{step, first_tree}
use Rattle.effects.specs.Sound.{IsSound}
use Rattle.race_checker.specs.Clash.{IsAccepted}
use Rattle.step_trees.specs.Alike.{AreAlike}
use Rattle.step_trees.specs.Drawing.{next_number, picked, behind, drawn, drawn_choices}
use Rattle.step_trees.proofs.AlikeTrees.{alike-ready, alike-comes, alike-explored}
use Rattle.step_trees.proofs.ChosenRuns.{choices_end, told_misses, told_open}
use Rattle.step_trees.proofs.Exploring.{goes-on}
use Rattle.step_trees.proofs.NoDeadlock.{Awake, awake_step, first_awake, ready_if}
use Rattle.step_trees.proofs.Steps.{ready_steps, step_from}

-- the leaf that is picked may step
pub picked-below : (number leaves : ℕ) → 0 < leaves → picked number leaves < leaves
picked-below number leaves h = mod-lt (number / 4294967296) h

module _ (p : Program) where
  -- nothing is drawn after the last choice
  pub drawn-over : (n : ℕ) (t : Tree) (a : Contents) → drawn p zero n t a ≡ []
  unfolding drawn
  drawn-over n t a = refl

  -- nothing is drawn if no leaf may step
  pub drawn-none : (m n : ℕ) (t : Tree) (a : Contents) → ready t ≡ 0 → drawn p m n t a ≡ []
  unfolding drawn
  drawn-none zero n t a e = refl
  drawn-none (suc m) n t a e =
      ap (λ (z : Bool). if z then [] else (let l = next_number n in let c = picked l (ready t) in c ∷ behind (drawn p m l) (step p c t a)))
      (eq-eqb (ready t) 0 e)

  drawn-some : (m n : ℕ) (t : Tree) (a : Contents) → nat_eq (ready t) 0 ≡ false → drawn p (suc m) n t a
      ≡ picked (next_number n) (ready t) ∷ behind (drawn p m (next_number n)) (step p (picked (next_number n) (ready t)) t a)
  unfolding drawn
  drawn-some m n t a e =
      ap (λ (z : Bool). if z then [] else (let l = next_number n in let c = picked l (ready t) in c ∷ behind (drawn p m l) (step p c t a))) e

  pub drawn-step : (m n c : ℕ) (t u : Tree) (a b : Contents) → 0 < ready t → c ≡ picked (next_number n) (ready t)
      → step p c t a ≡ Some (u, b) → drawn p (suc m) n t a ≡ c ∷ drawn p m (next_number n) u b
  drawn-step m n c t u a b h e s =
      let some : nat_eq (ready t) 0 ≡ false = grind (arith, nat_tests) in
      drawn-some m n t a some
      ∙ ap (λ x. x ∷ behind (drawn p m (next_number n)) (step p x t a)) (sym e)
      ∙ ap (λ o. c ∷ behind (drawn p m (next_number n)) o) s

  -- the same choices are drawn for trees that are alike
  pub alike-drawn : (m n : ℕ) (t u : Tree) (a : Contents) → AreAlike t u → drawn p m n t a ≡ drawn p m n u a
  alike-drawn zero n t u a g = drawn-over n t a ∙ sym (drawn-over n u a)
  alike-drawn (suc m) n t u a g = by (ready t) refl (alike-drawn m (next_number n))
    where
      by : (r : ℕ) → ready t ≡ r
          → ((v w : Tree) (b : Contents) → AreAlike v w → drawn p m (next_number n) v b ≡ drawn p m (next_number n) w b)
          → drawn p (suc m) n t a ≡ drawn p (suc m) n u a
      by zero e more = drawn-none (suc m) n t a e ∙ sym (drawn-none (suc m) n u a (sym (alike-ready g) ∙ e))
      by (suc r) e more =
          let some : 0 < ready t = omega (arith, e) in let same = alike-ready g in
          let c = picked (next_number n) (ready t) in
          let s = ready_steps p c t a (picked-below (next_number n) (ready t) some) in
          let q = alike-comes p c a g s.step in
          drawn-step m n c t s.tree a s.store some refl s.step
          ∙ ap (λ l. c ∷ l) (more s.tree q.tree s.store q.alike)
          ∙ sym (drawn-step m n c u q.tree a s.store (omega (arith, some, same)) (ap (picked (next_number n)) same) q.step)

  -- and the results are equal
  pub drawn-alike : (i m n : ℕ) (t u : Tree) (a : Contents) → AreAlike t u
      → explored_from p i (drawn p m n t a) t a ≡ explored_from p i (drawn p m n u a) u a
  drawn-alike i m n t u a g =
      alike-explored p i (drawn p m n t a) t u a g ∙ ap (λ l. explored_from p i l u a) (alike-drawn m n t u a g)

  -- the result if no more choices are drawn
  pub told-over : (i n : ℕ) (t : Tree) (a : Contents) → explored_from p i (drawn p zero n t a) t a ≡ told p t a
  told-over i n t a = ap (λ l. explored_from p i l t a) (drawn-over n t a)

  pub told-none : (i m n : ℕ) (t : Tree) (a : Contents) → ready t ≡ 0
      → explored_from p i (drawn p m n t a) t a ≡ told p t a
  told-none i m n t a e = ap (λ l. explored_from p i l t a) (drawn-none m n t a e)

  -- a choice that is drawn
  pub drawn-goes : (i m n c : ℕ) (t u : Tree) (a b : Contents) → 0 < ready t → c ≡ picked (next_number n) (ready t)
      → step p c t a ≡ Some (u, b)
      → explored_from p i (drawn p (suc m) n t a) t a ≡ explored_from p (i + 1) (drawn p m (next_number n) u b) u b
  drawn-goes i m n c t u a b h e s =
      ap (λ l. explored_from p i l t a) (drawn-step m n c t u a b h e s)
      ∙ goes-on p t a i c (drawn p m (next_number n) u b) u b s

  -- no more are drawn than may be
  few : (m n : ℕ) (t : Tree) (a : Contents) → length (drawn p m n t a) ≤ m
  few zero n t a = let none = ap length (drawn-over n t a) in omega (arith, none)
  few (suc m) n t a = by (ready t) refl (few m (next_number n))
    where
      by : (r : ℕ) → ready t ≡ r → ((u : Tree) (b : Contents) → length (drawn p m (next_number n) u b) ≤ m)
          → length (drawn p (suc m) n t a) ≤ suc m
      by zero h f = let none = ap length (drawn-none (suc m) n t a h) in omega (arith, none)
      by (suc r) h f =
          let some : 0 < ready t = omega (arith, h) in
          let s = ready_steps p (picked (next_number n) (ready t)) t a (picked-below (next_number n) (ready t) some) in
          let more = ap length (drawn-step m n (picked (next_number n) (ready t)) t s.tree a s.store some refl s.step) in
          let less = f s.tree s.store in
          omega (arith, more, less)

  -- each names a leaf
  named : (i m n k : ℕ) (t : Tree) (a : Contents) → explored_from p i (drawn p m n t a) t a ≡ NoSuchChoice k → ⊥
  named i zero n k t a e = told_misses p t a k (all_done t) (sym (told-over i n t a) ∙ e)
  named i (suc m) n k t a e = by (ready t) refl (named (i + 1) m (next_number n) k)
    where
      by : (r : ℕ) → ready t ≡ r
          → ((u : Tree) (b : Contents) → explored_from p (i + 1) (drawn p m (next_number n) u b) u b ≡ NoSuchChoice k → ⊥)
          → ⊥
      by zero h f = told_misses p t a k (all_done t) (sym (told-none i (suc m) n t a h) ∙ e)
      by (suc r) h f =
          let some : 0 < ready t = omega (arith, h) in
          let c = picked (next_number n) (ready t) in
          let s = ready_steps p c t a (picked-below (next_number n) (ready t) some) in
          f s.tree s.store
          (sym (drawn-goes i m n c t s.tree a s.store some refl s.step) ∙ e)

  -- if the run hasn't ended, their number is the maximum
  used : (i m n leaves : ℕ) (t : Tree) (a : Contents) → Awake t → explored_from p i (drawn p m n t a) t a ≡ Open leaves
      → length (drawn p m n t a) ≡ m
  used i zero n leaves t a w e = ap length (drawn-over n t a)
  used i (suc m) n leaves t a w e = by (ready t) refl (used (i + 1) m (next_number n) leaves)
    where
      by : (r : ℕ) → ready t ≡ r
          → ((u : Tree) (b : Contents) → Awake u
          → explored_from p (i + 1) (drawn p m (next_number n) u b) u b ≡ Open leaves
          → length (drawn p m (next_number n) u b) ≡ m)
          → length (drawn p (suc m) n t a) ≡ suc m
      by zero h f =
          let unfinished = told_open p t a leaves (all_done t) refl (sym (told-none i (suc m) n t a h) ∙ e) in
          let some = ready_if t w unfinished.0 in
          absurd (let bad : ⊥ = omega (arith, some, h) in bad)
      by (suc r) h f =
          let some : 0 < ready t = omega (arith, h) in
          let c = picked (next_number n) (ready t) in
          let s = ready_steps p c t a (picked-below (next_number n) (ready t) some) in
          ap length (drawn-step m n c t s.tree a s.store some refl s.step)
          ∙ ap suc (f s.tree s.store
          (awake_step p (step_from p t c a s.tree s.store s.step).1 w)
          (sym (drawn-goes i m n c t s.tree a s.store some refl s.step) ∙ e))

-- ---- from a seed on

module _ (p : Program) (input : List (List ℤ)) (seed : ℕ) where
  pub drawn_named : (k : ℕ) → explored p input (drawn_choices p input seed) ≡ NoSuchChoice k → ⊥
  drawn_named k e = named p 0 1000000 seed k (first_tree p) (held_by input) e

  pub drawn_used : (leaves : ℕ) → explored p input (drawn_choices p input seed) ≡ Open leaves
      → length (drawn_choices p input seed) ≡ 1000000
  drawn_used leaves e = used p 0 1000000 seed leaves (first_tree p) (held_by input) (first_awake p) e

  pub drawn_end : IsSound p → IsAccepted p → (o : Outcome) → explored p input (drawn_choices p input seed) ≡ Ends o
      → (b : Budget) → IsLarger b (record { steps = 1000000; nest = 1000000 }) → outcome p input b ≡ o
  drawn_end sound accepted o e b larger =
      let less = few p 1000000 seed (first_tree p) (held_by input) in
      choices_end p sound accepted input (drawn_choices p input seed) o e b (record {
        steps = let steps = larger.steps in omega (arith, less, steps);
        nest = let nest = larger.nest in omega (arith, less, nest);
      })
