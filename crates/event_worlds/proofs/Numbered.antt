-- The n-th child that a task spawns has the task's path followed by n.
use Rattle.std.proofs.Common.{◌≡◌, ℕ, zero, suc, ◌+◌, List, [], ◌∷◌, ◌++◌, length, Option, Some, None, refl, sym, ap}
use Rattle.std.proofs.Common.{◌∙◌, inl, inr, arith, append_assoc}
use Rattle.std.proofs.lemmas.List.{append-nil, length_push}
use Rattle.std.specs.Prelude.{Bool, true, false, ◌⊎◌, take, slice_get, if◌then◌else◌}
use Rattle.std.proofs.lemmas.Option.{none-some, same_Some}
use Rattle.types.specs.Code.{Codes, Program}
use Rattle.types.specs.Run.{State, Rules, Work, Block, run}
use Rattle.types.specs.Laws.{IsKept}
use Rattle.types.proofs.Keeps.{run_keeps}
use Rattle.effects.specs.Needs.{Needs}
use Rattle.task_run.specs.Results.{Settled}
use Rattle.task_run.specs.OwnRun.{Start, Action, Step, Spawn, EnterFinish, EndFinish, EndTask, Own, at_first, notes}
use Rattle.task_run.specs.OwnRun.{is_waiting, child_of, list_child, begin_own, leave_with, own_rules, beginning}
use Rattle.task_run.specs.OwnRun.{begun_by}
use Rattle.task_run.specs.Given.{in_truth, own, given}
use Rattle.task_run.proofs.SettledResults.{gives}
use Rattle.task_run.proofs.Begun.{begun_by-append}

pub get_last : {A : Type 0} (xs : List A) (x y : A) (n : ℕ) → slice_get (xs ++ x ∷ []) n ≡ Some y → (slice_get xs n ≡ Some y) ⊎ ((n ≡ length xs) × (x ≡ y))
get_last [] x y zero e = inr (refl, same_Some _ _ e)
get_last [] x y (suc n) e = absurd (none-some _ e)
get_last (z ∷ xs) x y zero e = inl e
get_last (z ∷ xs) x y (suc n) e = further (get_last xs x y n e)
  where
    further : (slice_get xs n ≡ Some y) ⊎ ((n ≡ length xs) × (x ≡ y)) → (slice_get xs n ≡ Some y) ⊎ ((suc n ≡ suc (length xs)) × (x ≡ y))
    further (inl h) = inl h
    further (inr h) = inr (ap suc h.0, h.1)

-- the children of a task with this path are numbered
record Numbers (path : List ℕ) (st : State Own) : Type 0 where
  named : st.path ≡ path
  counted : length (begun_by st.extra.actions) ≡ st.spawned
  each : (n : ℕ) (c : Start) → slice_get (begun_by st.extra.actions) n ≡ Some c → c.path ≡ path ++ suc n ∷ []

module _ (path : List ℕ) (needs : Codes → Needs) (nest : ℕ) (close : State Own → Option Settled) where
  abbrev r : Rules Own
  r = own_rules needs nest close

  abbrev N : State Own → State Own → Type 0
  N st to = Numbers path st → Numbers path to

  -- with the same children
  same : (st to : State Own) → to.path ≡ st.path → to.spawned ≡ st.spawned → begun_by to.extra.actions ≡ begun_by st.extra.actions → N st to
  same st to e f g h = record {
    named = e ∙ h.named;
    counted = ap length g ∙ h.counted ∙ sym f;
    each = λ n c i. h.each n c (ap (λ l. slice_get l n) (sym g) ∙ i);
  }

  -- with one more action that spawns nothing
  quiet : (xs : List Action) (a : Action) → begun_by (a ∷ []) ≡ [] → begun_by (xs ++ a ∷ []) ≡ begun_by xs
  quiet xs a e = begun_by-append xs (a ∷ []) ∙ ap (λ l. begun_by xs ++ l) e ∙ append-nil (begun_by xs)

  listed : (n : Needs) (m : ℕ) (b : Codes) (st : State Own) → Numbers path st → Numbers path (list_child n m b st)
  listed n m b st h = record {
    named = h.named;
    counted = ap length (begun_by-append st.extra.actions (Spawn kid ∷ [])) ∙ length_push (begun_by st.extra.actions) kid ∙ ap (λ k. k + 1) h.counted;
    each = λ i c e. by_place i c (get_last (begun_by st.extra.actions) kid c i (ap (λ l. slice_get l i) (sym (begun_by-append st.extra.actions (Spawn kid ∷ []))) ∙ e));
  }
    where
      kid : Start
      kid = (child_of n m b st).start

      by_place : (i : ℕ) (c : Start) → (slice_get (begun_by st.extra.actions) i ≡ Some c) ⊎ ((i ≡ length (begun_by st.extra.actions)) × ((child_of n m b st).start ≡ c)) → c.path ≡ path ++ suc i ∷ []
      by_place i c (inl e) = h.each i c e
      by_place i c (inr (e, f)) =
          let k : st.spawned + 1 ≡ suc i = (let a = h.counted in omega (arith, a, e)) in
          ap (λ (c : Start). c.path) (sym f) ∙ ap (λ q. q ++ (st.spawned + 1) ∷ []) h.named ∙ ap (λ m. path ++ m ∷ []) k

  begins : (n : ℕ) (b : Codes) (st : State Own) → N st (begin_own needs n b st)
  begins zero b st = same st _ refl refl refl
  begins (suc n) b st = listed (needs b) n b st

  finishes : (l : ℕ) (st out : State Own) → N (r.enter l st) out → N st (r.leave st out)
  finishes l st out h = λ k. by_waiting k (is_waiting out)
    where
      inner : Numbers path st → Numbers path out
      inner k = h (same st (r.enter l st) refl refl (quiet st.extra.actions EnterFinish refl) k)

      ends : Numbers path st → (s : Option Settled) → Numbers path (leave_with st (record out { extra = notes EndFinish out.extra }) s)
      ends k None = same out _ refl refl (quiet out.extra.actions EndFinish refl) (inner k)
      ends k (Some x) = same out _ refl refl (quiet out.extra.actions EndFinish refl) (inner k)

      by_waiting : Numbers path st → (b : Bool) → Numbers path (if b then out else leave_with st (record out { extra = notes EndFinish out.extra }) (close out))
      by_waiting k true = inner k
      by_waiting k false = ends k (close out)

  numbers : IsKept r N
  numbers = record {
    idle = λ st to e f g _. same st to e f (ap (λ (x : Own). begun_by x.actions) g);
    further = λ a b c h k x. k (h x);
    stepped = λ l st. same st (record st { extra = r.stepped l st.extra }) refl refl (quiet st.extra.actions Step refl);
    begin = λ l b st. begins nest b st;
    finish = finishes;
  }

  run_numbers : (p : Program) (w : Work) (st : State Own) → N st (run p r w st)
  run_numbers p w st = run_keeps p r N numbers w st

module _ (p : Program) (needs : Codes → Needs) (fresh : ℕ) where
  begun_path : (s : Start) (n : ℕ) (c : Start) → slice_get (begun_by (own p needs fresh s).extra.actions) n ≡ Some c → c.path ≡ s.path ++ suc n ∷ []
  begun_path s n c e =
      (run_numbers s.path needs s.nest (in_truth p needs fresh) p (Block s.body) (beginning (at_first s.owned) fresh s)
      (record { named = refl; counted = refl; each = λ n c e. absurd (none-some _ e) })).each n c e

  -- the start given to a path has this path
  pub given_path : (q : List ℕ) (s c : Start) → given p needs fresh s q ≡ Some c → c.path ≡ s.path ++ q
  given_path [] s c e = ap (λ (c : Start). c.path) (sym (same_Some _ _ e)) ∙ sym (append-nil s.path)
  given_path (zero ∷ q) s c e = absurd (none-some _ e)
  given_path (suc n ∷ q) s c e =
      let g = gives (slice_get (begun_by (own p needs fresh s).extra.actions) n) (λ d. given p needs fresh d q) c e in
      given_path q g.one c g.next ∙ ap (λ l. l ++ q) (begun_path s n g.one g.first) ∙ append_assoc s.path (suc n ∷ []) q

-- the child of a spawn is the next one after those already spawned
pub begun_at : (xs : List Action) (k : ℕ) (c : Start) → slice_get xs k ≡ Some (Spawn c) → slice_get (begun_by xs) (length (begun_by (take k xs))) ≡ Some c
begun_at [] k c e = absurd (none-some _ e)
begun_at (x ∷ xs) zero c e = ap (λ y. slice_get (begun_by (y ∷ xs)) 0) (same_Some _ _ e)
begun_at (Spawn d ∷ xs) (suc k) c e = begun_at xs k c e
begun_at (Step ∷ xs) (suc k) c e = begun_at xs k c e
begun_at (EnterFinish ∷ xs) (suc k) c e = begun_at xs k c e
begun_at (EndFinish ∷ xs) (suc k) c e = begun_at xs k c e
begun_at (EndTask ∷ xs) (suc k) c e = begun_at xs k c e
