-- A property that holds for a state, whether or not its rules were informed of a statement's step,
-- holds after `counted`.
use Rattle.std.proofs.Common.{◌≡◌, ℕ, refl}
use Rattle.types.specs.Code.{Code, Do, If, While, Split, Parts, Begun, Call, Async, Finish, Rescue}
use Rattle.types.specs.Run.{State, Rules, counted}

module _ {X : Type 0} (r : Rules X) (l : ℕ) (st : State X) where
  pub counted_is : (P : State X → Type 0) → P st → P (record st { extra = r.stepped l st.extra })
      → (s : Code) → P (counted r l s st)
  counted_is P untold told (Do s) = told
  counted_is P untold told (If t b c) = told
  counted_is P untold told (While t b) = told
  counted_is P untold told (Split s e x y b) = told
  counted_is P untold told (Parts s e x i b) = told
  counted_is P untold told (Begun s n k x i b) = told
  counted_is P untold told (Call f es ss) = told
  counted_is P untold told (Async b) = untold
  counted_is P untold told (Finish b) = untold
  counted_is P untold told (Rescue b x c) = untold

  pub counted_flow : (s : Code) → (counted r l s st).flow ≡ st.flow
  counted_flow = counted_is (λ to. to.flow ≡ st.flow) refl refl

  pub counted_steps : (s : Code) → (counted r l s st).steps ≡ st.steps
  counted_steps = counted_is (λ to. to.steps ≡ st.steps) refl refl
