-- The first result of a path, by its index.
use Rattle.std.proofs.Common.{◌≡◌, ℕ, zero, suc, ◌+◌, ◌<◌, List, [], ◌∷◌, length, get_or, map, Option, Some, None, refl, sym, ap, ◌∙◌, arith}
use Rattle.std.specs.Prelude.{Bool, true, false, cond, IfSome, OnSome, if◌then◌else◌}
use Rattle.std.specs.List.{remove, position, position_from}
use Rattle.std.proofs.lemmas.Option.{none-some}
use Rattle.std.proofs.lemmas.Iterator.Adapters.{position_from-zero}
use Rattle.std.proofs.lemmas.List.Quantifiers.{position-Some}
use Rattle.task_run.specs.Settling.{behind, take}
use Rattle.task_run.specs.Translation.{task_result}
use Rattle.task_run.specs.declared.result.TaskResult.{TaskResult as rTaskResult}
use Rattle.gather.specs.Unused.{is_of}

pub taken_here : (path : List ℕ) (x : rTaskResult) (xs : List rTaskResult) → is_of path x ≡ true
    → take path (map task_result (x ∷ xs)) ≡ Some (task_result x, map task_result xs)
taken_here path x xs e =
    ap (λ b. if b then Some (task_result x, map task_result xs) else behind (task_result x) (take path (map task_result xs))) e

pub passed : (path : List ℕ) (x : rTaskResult) (xs : List rTaskResult) → is_of path x ≡ false
    → take path (map task_result (x ∷ xs)) ≡ behind (task_result x) (take path (map task_result xs))
passed path x xs e =
    ap (λ b. if b then Some (task_result x, map task_result xs) else behind (task_result x) (take path (map task_result xs))) e

pub taken_at : (path : List ℕ) (xs : List rTaskResult) (i : ℕ) (x d : rTaskResult) → i < length xs → x ≡ get_or xs i d
    → is_of path x ≡ true → ((k : ℕ) → k < i → is_of path (get_or xs k d) ≡ false)
    → take path (map task_result xs) ≡ Some (task_result x, map task_result (remove xs i))
taken_at path [] i x d lt is e before = absurd (omega (arith, lt))
taken_at path (y ∷ xs) zero x d lt is e before =
    taken_here path y xs (ap (is_of path) (sym is) ∙ e) ∙ ap (λ r. Some (task_result r, map task_result xs)) (sym is)
taken_at path (y ∷ xs) (suc i) x d lt is e before =
    passed path y xs (before zero (omega arith))
    ∙ ap (behind (task_result y))
    (taken_at path xs i x d (omega (arith, lt)) is e (λ k less. before (suc k) (omega (arith, less))))

none_from : (path : List ℕ) (i : ℕ) (xs : List rTaskResult) → position_from (is_of path) i xs ≡ None → take path (map task_result xs) ≡ None
none_from path i [] e = refl
none_from path i (x ∷ xs) e = by_path (λ k. none_from path (i + 1) xs k) (is_of path x) refl e
  where
    by_path : (position_from (is_of path) (i + 1) xs ≡ None → take path (map task_result xs) ≡ None)
        → (b : Bool) → is_of path x ≡ b → cond b (Some i) (position_from (is_of path) (i + 1) xs) ≡ None
        → take path (map task_result (x ∷ xs)) ≡ None
    by_path rest true w k = absurd (none-some _ (sym k))
    by_path rest false w k = passed path x xs w ∙ ap (behind (task_result x)) (rest k)

-- none has it
pub not_taken : (path : List ℕ) (xs : List rTaskResult) → position (is_of path) xs ≡ None → take path (map task_result xs) ≡ None
not_taken path xs e = none_from path 0 xs (sym (position_from-zero (is_of path) xs) ∙ e)

-- one has it
pub taken_first : (path : List ℕ) (xs : List rTaskResult) (i : ℕ) (x : rTaskResult) → position (is_of path) xs ≡ Some i
    → x ≡ get_or xs i x → take path (map task_result xs) ≡ Some (task_result x, map task_result (remove xs i))
taken_first path xs i x e is =
    let f = position-Some (is_of path) xs i x e in
    taken_at path xs i x x f.0 is (ap (is_of path) is ∙ f.1) f.2

-- and it is taken out
pub taken_by : (o : Option rTaskResult) (path : List ℕ) (xs ys : List rTaskResult) (i : ℕ) → Some i ≡ position (is_of path) xs
    → IfSome o (λ x. x ≡ get_or xs i x) → OnSome o (ys ≡ remove xs i)
    → IfSome o (λ x. take path (map task_result xs) ≡ Some (task_result x, map task_result ys))
taken_by None path xs ys i e value items = tt
taken_by (Some x) path xs ys i e value items =
    taken_first path xs i x (sym e) value ∙ ap (λ l. Some (task_result x, map task_result l)) (sym items)
