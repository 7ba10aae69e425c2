-- An error of a part is an error of the whole, and a whole whose parts have no errors has none.
use Rattle.std.proofs.Common.{◌≡◌, ℕ, ◌⊎◌, List, [], ◌∷◌, ◌++◌, Result, OnOk, IfOk, IfErr, refl, sym, ap, ◌∙◌, subst, inl, inr}
use Rattle.std.proofs.Common.{◌+◌, ◌<◌, drop, length}
use Rattle.std.proofs.lemmas.List.{at_drop_more}
use Rattle.std.specs.Prelude.{slice_index_or}
use Rattle.std.specs.Result.{IsErrAnd}
use Rattle.types.specs.Told.{Told}
use Rattle.types.specs.declared.error.TypeError.{TypeError}
use Rattle.types.specs.declared.error.TypeError.TheVariants.{OutOfMemory, WrongKind}
use Rattle.types.specs.ExpressionErrors.{wrong_kind}
use Rattle.types.specs.Scope.{Names}
use Rattle.shared_lemmas.proofs.Results.{err_passed}

pub none_both : (xs ys : List TypeError) → xs ≡ [] → ys ≡ [] → xs ++ ys ≡ []
none_both xs ys e f = ap (λ l. l ++ ys) e ∙ f

pub told_memory : (xs : List TypeError) (e : TypeError) → e ≡ OutOfMemory → Told xs e
told_memory [] e h = h
told_memory (x ∷ xs) e h = inr (told_memory xs e h)

pub told_right : (xs ys : List TypeError) (e : TypeError) → Told ys e → Told (xs ++ ys) e
told_right [] ys e h = h
told_right (x ∷ xs) ys e h = inr (told_right xs ys e h)

told_left_by : (x : TypeError) (xs ys : List TypeError) (e : TypeError) → (Told xs e → Told (xs ++ ys) e)
    → (e ≡ x) ⊎ Told xs e → (e ≡ x) ⊎ Told (xs ++ ys) e
told_left_by x xs ys e go (inl h) = inl h
told_left_by x xs ys e go (inr h) = inr (go h)

pub told_left : (xs ys : List TypeError) (e : TypeError) → Told xs e → Told (xs ++ ys) e
told_left [] ys e h = told_memory ys e h
told_left (x ∷ xs) ys e h = told_left_by x xs ys e (told_left xs ys e) h

-- a single error
pub told_alone : (x : TypeError) → Told (x ∷ []) x
told_alone x = inl refl

-- the rules by which an error of a part is an error of the whole
pub ruleset telling = (told_left, told_right, told_memory, told_alone, none_both)

-- at an exit by `?`, whose error is that of the part
pub at_exit : {X : Type 0} (P : TypeError → Type 0) (r : Result X TypeError) (e : TypeError) → IsErrAnd r (λ y. y ≡ e) → P e → IfErr r P
at_exit P r e passed h = err_passed r e P passed h

-- at an exit by `?`, whose error is that of the first part of the whole
pub exit_left : {X : Type 0} (r : Result X TypeError) (e : TypeError) → IsErrAnd r (λ y. y ≡ e)
    → {whole : List TypeError} (part more : List TypeError) → whole ≡ part ++ more → Told part e → IfErr r (Told whole)
exit_left r e passed {whole = whole} part more is h =
    at_exit (Told whole) r e passed (subst (λ l. Told l e) (sym is) (told_left part more e h))

-- what remains of a row whose next item is known
pub at_front : {A B : Type 0} (f : List A → B) (xs : List A) (i : ℕ) (x : A) → i < length xs
    → x ≡ slice_index_or xs i x → f (drop i xs) ≡ f (x ∷ drop (i + 1) xs)
at_front f xs i x inside is =
    at_drop_more f xs i x inside ∙ ap (λ y. f (y ∷ drop (i + 1) xs)) (sym is)

-- the errors of a part are those of what it represents
pub same_right : {X : Type 0} (r : Result X TypeError) {xs ys : List TypeError} → xs ≡ ys → OnOk r (ys ≡ []) → OnOk r (xs ≡ [])
same_right r e = subst (λ l. OnOk r (l ≡ [])) (sym e)

pub same_code : {X N : Type 0} (f : X → N) (r : Result X TypeError) {m n : N} → m ≡ n → IfOk r (λ x. n ≡ f x) → IfOk r (λ x. m ≡ f x)
same_code f r e = subst (λ k. IfOk r (λ x. k ≡ f x)) (sym e)

pub same_error : {X : Type 0} (r : Result X TypeError) {xs ys : List TypeError} → xs ≡ ys → IfErr r (Told ys) → IfErr r (Told xs)
same_error r e = subst (λ l. IfErr r (Told l)) (sym e)

-- a part of the wrong kind
pub wrong : (label : ℕ) (names : Names) (xs : List TypeError) → xs ≡ wrong_kind label names → Told xs (WrongKind label)
wrong label names xs e = subst (λ l. Told l (WrongKind label)) (sym e) (told_alone (WrongKind label))
