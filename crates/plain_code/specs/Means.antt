-- What a run does as it does on one thread, and how it applies `stepped`.
use Rattle.std.specs.Prelude.{ℕ, zero, suc, ◌+◌, ◌≡◌}
use Rattle.types.specs.Run.{State, keeping}

-- a state without extra data
abbrev pub bare : {X : Type 0} → State X → State (Unit {0})
bare = keeping tt

module _ {X : Type 0} where
  -- a state, with this extra data
  abbrev pub beside : X → State (Unit {0}) → State X
  beside = keeping

  -- a function applied this number of times
  abbrev pub times : ℕ → (X → X) → X → X
  times zero f x = x
  times (suc n) f x = times n f (f x)

  -- the run led from one state to another as on one thread, and applied `stepped` once for each
  -- step
  pub record IsAsOnOne (stepped : X → X) (st out : State X) (one : State (Unit {0})) : Type 0 where
    pub taken : ℕ
    pub steps : one.steps + taken ≡ st.steps
    pub is : out ≡ beside (times taken stepped st.extra) one
