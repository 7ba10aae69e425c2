-- Results.
use Rattle.std.proofs.Common.{◌≡◌, subst, sym}
use Rattle.std.specs.Prelude.{Result, Ok, Err, IfOk, IfErr, IsErrAnd, OnOk}

-- an `Ok` is no `Err`
pub ok_is_no_error : {A E : Type 0} (x : A) (e : E) → (let r : Result A E = Ok x in r) ≡ Err e → ⊥
ok_is_no_error x e is = cc

-- what follows if a call returns `Ok`
pub ok_then : {T E P Q : Type 0} (r : Result T E) → OnOk r P → (P → Q) → OnOk r Q
ok_then (Ok x) p f = f p
ok_then (Err e) p f = p

-- what follows from a property of the returned value
pub if_ok_then : {T E : Type 0} {P Q : T → Type 0} (r : Result T E) → IfOk r P → ((x : T) → P x → Q x) → IfOk r Q
if_ok_then (Ok x) p f = f x p
if_ok_then (Err e) p f = p

-- what follows from a property of the error
pub if_err_then : {T E : Type 0} {P Q : E → Type 0} (r : Result T E) → IsErrAnd r P → ((e : E) → P e → Q e) → IfErr r Q
if_err_then (Ok x) p f = tt
if_err_then (Err e) p f = f e p

-- an error that `?` propagates
pub err_passed : {T E : Type 0} (r : Result T E) (e : E) (P : E → Type 0) → IsErrAnd r (λ x. x ≡ e) → P e → IfErr r P
err_passed (Ok x) e P is p = absurd is
err_passed (Err y) e P is p = subst P (sym is) p
