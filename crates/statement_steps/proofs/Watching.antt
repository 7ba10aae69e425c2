-- The calls that the watch of a run gets.
use Rattle.std.proofs.Common.{ℕ, ◌≤◌, List, [], ◌∷◌, ◌++◌, Bool, true, false, Result, Ok, Err, refl, inl, inr}
use Rattle.statement_steps.specs.Watched.{AreApart, Watches, steps_between}

-- one count more
pub one_apart : (before : List ℕ) (m n : ℕ) → AreApart (before ++ m ∷ []) → 65536 ≤ steps_between m n
    → AreApart ((before ++ m ∷ []) ++ n ∷ [])
one_apart [] m n apart far = (far, tt)
one_apart (a ∷ []) m n apart far = (apart.0, (far, tt))
one_apart (a ∷ b ∷ before) m n apart far = (apart.0, one_apart (b ∷ before) m n apart.1 far)

module _ {W : Type 0} (Told : List ℕ → W → W → Type 0) where
  -- a run that fails before it starts makes no call
  pub not_begun : (A : Type 0) {E : Type 0} (asked : Bool) (e : E) (w : W) → Told [] w w → Watches Told {A = A} asked (Err e) w w
  not_begun A false e w nothing = refl
  not_begun A true e w nothing = inl (record { counts = []; told = nothing; apart = tt })

  -- what comes after a run makes no more calls
  pub behind_end : {A B F : Type 0} (E : Type 0) (asked : Bool) (a : A) (r : Result B F) (old new : W)
      → Watches Told {E = E} asked (Ok a) old new → Watches Told asked r old new
  behind_end E false a r old new told = told
  behind_end E true a (Ok b) old new told = told
  behind_end E true a (Err f) old new told = inr told

  pub still_failed : (A B : Type 0) {E F : Type 0} (asked : Bool) (e : E) (f : F) (old new : W)
      → Watches Told {A = A} asked (Err e) old new → Watches Told {A = B} asked (Err f) old new
  still_failed A B false e f old new told = told
  still_failed A B true e f old new told = told
