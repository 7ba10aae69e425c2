-- The number of open finishes after a task's actions: a task ends only finishes that it has
-- started, and its own end is last.
use Rattle.std.proofs.Common.{◌≡◌, ℕ, zero, suc, ◌+◌, List, [], ◌∷◌, ◌++◌, Option, Some, None, refl, sym, ap, ◌∙◌, arith}
use Rattle.std.specs.Prelude.{take, slice_get}
use Rattle.std.proofs.lemmas.Option.{none-some, same_Some}
use Rattle.task_run.specs.OwnRun.{Action, Step, Spawn, EnterFinish, EndFinish, EndTask, last_action}

-- the number of open finishes after actions, with d before them; None if a finish ends that isn't
-- open, or the task ends
abbrev pub depth : ℕ → List Action → Option ℕ
depth d [] = Some d
depth d (Step ∷ xs) = depth d xs
depth d (Spawn c ∷ xs) = depth d xs
depth d (EnterFinish ∷ xs) = depth (suc d) xs
depth zero (EndFinish ∷ xs) = None
depth (suc d) (EndFinish ∷ xs) = depth d xs
depth d (EndTask ∷ xs) = None

pub depth-append : (d : ℕ) (xs bs : List Action) (e : ℕ) → depth d xs ≡ Some e → depth d (xs ++ bs) ≡ depth e bs
depth-append d [] bs e h = ap (λ n. depth n bs) (same_Some _ _ h)
depth-append d (Step ∷ xs) bs e h = depth-append d xs bs e h
depth-append d (Spawn c ∷ xs) bs e h = depth-append d xs bs e h
depth-append d (EnterFinish ∷ xs) bs e h = depth-append (suc d) xs bs e h
depth-append zero (EndFinish ∷ xs) bs e h = absurd (none-some _ h)
depth-append (suc d) (EndFinish ∷ xs) bs e h = depth-append d xs bs e h
depth-append d (EndTask ∷ xs) bs e h = absurd (none-some _ h)

-- the last action of a task ends no open finish
pub depth-last_action : (q : List ℕ) → depth 0 (last_action q ∷ []) ≡ None
depth-last_action [] = refl
depth-last_action (k ∷ q) = refl

-- actions that open more finishes than they end, by this number, from any start
abbrev pub IsLevel : List Action → ℕ → Type 0
IsLevel xs n = (d : ℕ) → depth d xs ≡ Some (n + d)

pub level-append : (xs bs : List Action) (n m : ℕ) → IsLevel xs n → IsLevel bs m → IsLevel (xs ++ bs) (n + m)
level-append xs bs n m h k d =
    let e : m + (n + d) ≡ n + m + d = omega arith in
    depth-append d xs bs (n + d) (h d) ∙ k (n + d) ∙ ap Some e

pub same_level : (d : ℕ) → Some d ≡ Some (0 + d)
same_level d = let e : d ≡ 0 + d = omega arith in ap Some e

pub flat_level : (xs : List Action) (n : ℕ) → IsLevel xs n → n ≡ 0 → (d : ℕ) → depth d xs ≡ Some d
flat_level xs n h none d = let e : n + d ≡ d = omega (arith, none) in h d ∙ ap Some e

-- ---- the first k elements
pub take_next : {A : Type 0} (xs : List A) (k : ℕ) (x : A) → slice_get xs k ≡ Some x → take (suc k) xs ≡ take k xs ++ x ∷ []
take_next [] k x e = absurd (none-some _ e)
take_next (y ∷ xs) zero x e = ap (λ z. z ∷ []) (same_Some _ _ e)
take_next (y ∷ xs) (suc k) x e = ap (λ l. y ∷ l) (take_next xs k x e)

-- the first k elements of the first list
pub take-append : {A : Type 0} (xs ys : List A) (k : ℕ) (x : A) → slice_get xs k ≡ Some x → take k (xs ++ ys) ≡ take k xs
take-append [] ys k x e = absurd (none-some _ e)
take-append (z ∷ xs) ys zero x e = refl
take-append (z ∷ xs) ys (suc k) x e = ap (λ l. z ∷ l) (take-append xs ys k x e)

-- a first part of bracketed actions, together with the next one
pub depth_next : (d : ℕ) (xs : List Action) (k : ℕ) (a : Action) (e f : ℕ) → depth d xs ≡ Some e → slice_get xs k ≡ Some a → depth d (take k xs) ≡ Some f → (g : ℕ) × (depth f (a ∷ []) ≡ Some g)
depth_next d [] k a e f h n t = absurd (none-some _ n)
depth_next d (x ∷ xs) zero a e f h n t =
    let r = head_fits x d xs e h in
    (r.0, ap (λ m. depth m (a ∷ [])) (sym (same_Some _ _ t)) ∙ ap (λ y. depth d (y ∷ [])) (sym (same_Some _ _ n)) ∙ r.1)
  where
    head_fits : (x : Action) (d : ℕ) (xs : List Action) (e : ℕ) → depth d (x ∷ xs) ≡ Some e → (g : ℕ) × (depth d (x ∷ []) ≡ Some g)
    head_fits Step d xs e h = (d, refl)
    head_fits (Spawn c) d xs e h = (d, refl)
    head_fits EnterFinish d xs e h = (suc d, refl)
    head_fits EndFinish zero xs e h = absurd (none-some _ h)
    head_fits EndFinish (suc d) xs e h = (d, refl)
    head_fits EndTask d xs e h = absurd (none-some _ h)
depth_next d (Step ∷ xs) (suc k) a e f h n t = depth_next d xs k a e f h n t
depth_next d (Spawn c ∷ xs) (suc k) a e f h n t = depth_next d xs k a e f h n t
depth_next d (EnterFinish ∷ xs) (suc k) a e f h n t = depth_next (suc d) xs k a e f h n t
depth_next zero (EndFinish ∷ xs) (suc k) a e f h n t = absurd (none-some _ h)
depth_next (suc d) (EndFinish ∷ xs) (suc k) a e f h n t = depth_next d xs k a e f h n t
depth_next d (EndTask ∷ xs) (suc k) a e f h n t = absurd (none-some _ h)
