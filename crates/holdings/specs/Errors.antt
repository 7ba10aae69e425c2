-- Errors of calls to holdings.
use Rattle.std.specs.Prelude.{ℕ, List, codes}
use Rattle.holdings.specs.declared.error.HoldError.{HoldError}
use Rattle.holdings.specs.declared.error.HoldError.TheVariants.{NotHeld, OutOfMemory, OwnedTwice}

-- the code of an error
abbrev pub error_code : HoldError → List ℕ
error_code NotHeld = codes "H1"
error_code OutOfMemory = codes "H2"
error_code OwnedTwice = codes "H3"

-- a call that needs places failed: either one is missing, or all are there and memory ran out
abbrev pub RefusesPlaces : HoldError → (all_there : Type 0) → Type 0
RefusesPlaces NotHeld there = there → ⊥
RefusesPlaces OutOfMemory there = there
RefusesPlaces OwnedTwice there = ⊥

-- a call that brings places failed: either one is owned already, or none is and memory ran out
abbrev pub RefusesOwned : HoldError → (apart : Type 0) → Type 0
RefusesOwned NotHeld apart = ⊥
RefusesOwned OutOfMemory apart = apart
RefusesOwned OwnedTwice apart = apart → ⊥
