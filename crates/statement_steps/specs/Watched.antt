-- The calls that the watch of a run gets.
use Rattle.std.specs.Prelude.{ℕ, ◌≡◌, ◌⊎◌, ◌≤◌, ◌+◌, ◌-◌, ◌%◌, ◌^◌, List, [], ◌∷◌, ◌++◌, Bool, true}
use Rattle.std.specs.Prelude.{false, Result, Ok, Err}

-- the number of steps between two counts of 64 bits
abbrev pub steps_between : (from to : ℕ) → ℕ
steps_between from to = (to + (2 ^ 64 - from)) % 2 ^ 64

-- between each count and the next one, at least 65,536 steps were executed
abbrev pub AreApart : List ℕ → Type 0
AreApart [] = Unit {0}
AreApart (n ∷ []) = Unit {0}
AreApart (n ∷ m ∷ counts) = (65536 ≤ steps_between n m) × AreApart (m ∷ counts)

module _ {W : Type 0} (Told : List ℕ → W → W → Type 0) where
  -- the watch was called with some counts during the run
  pub record IsTold (old new : W) : Type 0 where
    pub counts : List ℕ
    pub told : Told counts old new
    pub apart : AreApart counts

  -- and called once more, with any count, at the end of the run
  pub record IsToldOfEnd (old new : W) : Type 0 where
    pub counts : List ℕ
    pub last : ℕ
    pub told : Told (counts ++ last ∷ []) old new
    pub apart : AreApart counts

  -- the calls for a run with this result, if the run is watched; no calls otherwise
  abbrev pub Watches : {A E : Type 0} → (asked : Bool) → Result A E → (old new : W) → Type 0
  Watches false r old new = new ≡ old
  Watches true (Ok a) old new = IsToldOfEnd old new
  Watches true (Err e) old new = IsTold old new ⊎ IsToldOfEnd old new
