-- A store statement that faults.
use Rattle.std.proofs.Common.{◌≡◌, ℕ, Ok, Err, ap, sym, ◌∙◌}
use Rattle.std.specs.Prelude.{ℤ, Bool, true, false}
use Rattle.types.specs.declared.fault.FaultKind.{FaultKind}
use Rattle.types.specs.declared.fault.FaultKind.TheVariants.{OutOfElement}
use Rattle.types.specs.Code.{Number, Program, Store}
use Rattle.sections.specs.Place.{Place}
use Rattle.types.specs.Run.{State, array_of, fault, number_at, primitive, put, window_at, with_value}
use Rattle.types.specs.Value.{Valued, element_of, holds_number, then_try}
use Rattle.statement_steps.specs.Primitive.{fitting, target}

module _ (p : Program) (l : ℕ) (f : FaultKind) (st : State (Unit {0})) where
  by_fit : (b : Bool) (q : Place) (v : ℤ) → Err f ≡ fitting b q v → fault l f st ≡ put l b q v st
  by_fit true q v e = absurd (let bad : ⊥ = cc in bad)
  by_fit false q v e = let same : f ≡ OutOfElement = cc in ap (λ k. fault l k st) same

  by_element : (v : ℤ) (r : Valued Place) → Err f ≡ then_try r (λ q. fitting (holds_number (array_of p q.array).element v) q v)
      → fault l f st ≡ with_value l r (λ q. put l (holds_number (array_of p q.array).element v) q v) st
  by_element v (Ok q) e = by_fit (holds_number (array_of p q.array).element v) q v e
  by_element v (Err k) e = let same : f ≡ k = cc in ap (λ k. fault l k st) same

  -- the index, the place or the value is at fault
  pub store_faults : (s : ℕ) (i e : Number) → Err f ≡ target p st s i e → fault l f st ≡ primitive p l (Store s i e) st
  store_faults s i e is = by_index (number_at st i) is
    where
      by_value : (at : ℤ) (r : Valued ℤ) → Err f ≡ then_try r (λ v. then_try (element_of (st.environment.windows s) at)
          (λ q. fitting (holds_number (array_of p q.array).element v) q v))
          → fault l f st ≡ with_value l r (λ v. with_value l (element_of (window_at st s) at)
          (λ q. put l (holds_number (array_of p q.array).element v) q v)) st
      by_value at (Ok v) is = by_element v (element_of (st.environment.windows s) at) is
      by_value at (Err k) is = let same : f ≡ k = cc in ap (λ k. fault l k st) same

      by_index : (r : Valued ℤ) → Err f ≡ then_try r (λ at. then_try (number_at st e) (λ v.
          then_try (element_of (st.environment.windows s) at)
          (λ q. fitting (holds_number (array_of p q.array).element v) q v)))
          → fault l f st ≡ with_value l r (λ at. with_value l (number_at st e) (λ v.
          with_value l (element_of (window_at st s) at)
          (λ q. put l (holds_number (array_of p q.array).element v) q v))) st
      by_index (Ok at) is = by_value at (number_at st e) is
      by_index (Err k) is = let same : f ≡ k = cc in ap (λ k. fault l k st) same

module _ (p : Program) (st : State (Unit {0})) where
  -- the index and the value were computed, the place exists, and the value fits in its array
  pub store_found : (s : ℕ) (i e : Number) (at v : ℤ) (q : Place) → number_at st i ≡ Ok at → number_at st e ≡ Ok v
      → element_of (st.environment.windows s) at ≡ Ok q → true ≡ holds_number (array_of p q.array).element v
      → target p st s i e ≡ Ok (q, v)
  store_found s i e at v q is_index is_value is_place fits =
      ap (λ r. then_try r (λ at. then_try (number_at st e) (λ v. then_try (element_of (st.environment.windows s) at)
      (λ q. fitting (holds_number (array_of p q.array).element v) q v)))) is_index
      ∙ ap (λ r. then_try r (λ v. then_try (element_of (st.environment.windows s) at)
      (λ q. fitting (holds_number (array_of p q.array).element v) q v))) is_value
      ∙ ap (λ r. then_try r (λ q. fitting (holds_number (array_of p q.array).element v) q v)) is_place
      ∙ ap (λ b. fitting b q v) (sym fits)
