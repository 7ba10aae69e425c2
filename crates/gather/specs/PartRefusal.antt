-- The errors of a part of the gathering.
use Rattle.std.specs.Prelude.{◌≡◌, Bool, true, false}
use Rattle.types.specs.declared.path.Path.{Path}
use Rattle.gather.specs.Parts.{Waiting, comes_back_twice}
use Rattle.gather.specs.declared.error.GatherError.{GatherError}
use Rattle.gather.specs.declared.error.GatherError.TheVariants.{Lost, Double, Stranger, OutOfMemory}

-- the error for a result that is left over: another one with its path was used, or nobody listed it
abbrev pub TellsLeftOver : (was_used : Bool) → Path → GatherError → Type 0
TellsLeftOver used path OutOfMemory = ⊥
TellsLeftOver used path (Lost other) = ⊥
TellsLeftOver used path (Double other) = (other ≡ path) × (used ≡ true)
TellsLeftOver used path (Stranger other) = (other ≡ path) × (used ≡ false)

-- the error of a waiting result: one of the places that come back is already owned
abbrev pub RefusesHole : Waiting → GatherError → Type 0
RefusesHole w OutOfMemory = Unit {0}
RefusesHole w (Lost path) = ⊥
RefusesHole w (Double path) = (path.turns.items ≡ w.hole.path) × (comes_back_twice w ≡ true)
RefusesHole w (Stranger path) = ⊥

-- the error of places that come back, by the path and by whether one is already owned
abbrev pub RefusesBack : Path → (met : Bool) → GatherError → Type 0
RefusesBack path met OutOfMemory = Unit {0}
RefusesBack path met (Lost other) = ⊥
RefusesBack path met (Double other) = (other ≡ path) × (met ≡ true)
RefusesBack path met (Stranger other) = ⊥

-- the error of holdings that come back
abbrev pub RefusesPaste : Path → (apart : Type 0) → GatherError → Type 0
RefusesPaste path apart OutOfMemory = Unit {0}
RefusesPaste path apart (Lost other) = ⊥
RefusesPaste path apart (Double other) = (other ≡ path) × (apart → ⊥)
RefusesPaste path apart (Stranger other) = ⊥
