-- The effect of a statement of one step, determined before it is executed.
use Rattle.std.proofs.Common.{◌≡◌, ℕ, List, refl, ap, ◌∙◌, Ok, Err}
use Rattle.std.specs.Prelude.{ℤ, Bool, true, false}
use Rattle.sections.specs.Place.{Place}
use Rattle.types.specs.declared.fault.FaultKind.{FaultKind}
use Rattle.types.specs.declared.fault.FaultKind.TheVariants.{OutOfElement, Raised}
use Rattle.types.specs.Code.{Primitive, Skip, Assign, Store, Print, Raise, Program}
use Rattle.types.specs.Contents.{read, write}
use Rattle.types.specs.Value.{Environment, Valued, element_of, holds_number, number, numbers}
use Rattle.types.specs.Run.{State, with_value, assign, print, put, fault, array_of, primitive, number_at, window_at}

pub data Deed : Type 0 where
  Nothing : Deed
  Assigns : ℕ → ℤ → Deed
  Writes : Place → ℤ → Deed
  Prints : List ℤ → Deed
  Fails : FaultKind → Deed

abbrev pub by_value : {A : Type 0} → Valued A → (A → Deed) → Deed
by_value (Ok v) go = go v
by_value (Err f) go = Fails f

abbrev pub stores : Bool → Place → ℤ → Deed
stores true q v = Writes q v
stores false q v = Fails OutOfElement

abbrev pub deed : Program → Environment → (Place → ℤ) → Primitive → Deed
deed p env r Skip = Nothing
deed p env r (Assign x e) = by_value (number env r e) (Assigns x)
deed p env r (Store s i e) =
    by_value (number env r i) (λ at. by_value (number env r e) (λ v. by_value (element_of (env.windows s) at) (λ q.
    stores (holds_number (array_of p q.array).element v) q v)))
deed p env r (Print es) = by_value (numbers env r es) Prints
deed p env r (Raise e) = by_value (number env r e) (λ v. Fails (Raised v))

module _ {X : Type 0} where
  abbrev pub did : ℕ → Deed → State X → State X
  did l Nothing st = st
  did l (Assigns x v) st = assign x v st
  did l (Writes q v) st = record st { store = write q v st.store }
  did l (Prints vs) st = print vs st
  did l (Fails f) st = fault l f st

  value_did : {A : Type 0} (l : ℕ) (r : Valued A) (go : A → State X → State X) (d : A → Deed) (st : State X)
      → ((v : A) → go v st ≡ did l (d v) st) → with_value l r go st ≡ did l (by_value r d) st
  value_did l (Ok v) go d st h = h v
  value_did l (Err f) go d st h = refl

  put_did : (l : ℕ) (b : Bool) (q : Place) (v : ℤ) (st : State X) → put l b q v st ≡ did l (stores b q v) st
  put_did l true q v st = refl
  put_did l false q v st = refl

  pub primitive-did : (p : Program) (l : ℕ) (s : Primitive) (st : State X)
      → primitive p l s st ≡ did l (deed p st.environment (read st.store) s) st
  primitive-did p l Skip st = refl
  primitive-did p l (Assign x e) st = value_did l _ _ (Assigns x) st (λ v. refl)
  primitive-did p l (Store s i e) st =
      value_did l (number_at st i)
      (λ at. with_value l (number_at st e) (λ v. with_value l (element_of (window_at st s) at) (λ q. put l (holds_number (array_of p q.array).element v) q v)))
      (λ at. by_value (number_at st e) (λ v. by_value (element_of (window_at st s) at) (λ q. stores (holds_number (array_of p q.array).element v) q v))) st (λ at.
      value_did l (number_at st e)
      (λ v. with_value l (element_of (window_at st s) at) (λ q. put l (holds_number (array_of p q.array).element v) q v))
      (λ v. by_value (element_of (window_at st s) at) (λ q. stores (holds_number (array_of p q.array).element v) q v)) st (λ v.
      value_did l (element_of (window_at st s) at) (λ q. put l (holds_number (array_of p q.array).element v) q v)
      (λ q. stores (holds_number (array_of p q.array).element v) q v) st (λ q.
      put_did l (holds_number (array_of p q.array).element v) q v st)))
  primitive-did p l (Print es) st = value_did l _ _ Prints st (λ v. refl)
  primitive-did p l (Raise e) st = value_did l _ _ (λ v. Fails (Raised v)) st (λ v. refl)

  -- windows stay unchanged
  did_windows : (l : ℕ) (d : Deed) (st : State X) → (did l d st).environment.windows ≡ st.environment.windows
  did_windows l Nothing st = refl
  did_windows l (Assigns x v) st = refl
  did_windows l (Writes q v) st = refl
  did_windows l (Prints vs) st = refl
  did_windows l (Fails f) st = refl

  pub primitive_windows : (p : Program) (l : ℕ) (s : Primitive) (st : State X)
      → (primitive p l s st).environment.windows ≡ st.environment.windows
  primitive_windows p l s st = ap (λ (st : State X). st.environment.windows) (primitive-did p l s st) ∙ did_windows l (deed p st.environment (read st.store) s) st
