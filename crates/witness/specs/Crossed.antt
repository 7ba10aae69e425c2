-- Two ways that start where they meet, as plain values.
use Rattle.std.specs.Prelude.{ℕ, ◌≡◌, ◌+◌, Bool, true, false, List, length, Option, Some, option_map}
use Rattle.types.specs.Code.{Code, Codes, Program}
use Rattle.effects.specs.Accesses.{Access}
use Rattle.effects.specs.Translation.{access}
use Rattle.witness.specs.Least.{IsLeast, all_covered}
use Rattle.types.specs.Translation.{program}
use Rattle.witness.specs.Settled.{IsAim}
use Rattle.witness.specs.Ways.{WayOf}
use Rattle.witness.specs.Meets.{Meets, MeetsAt, MeetsInTurns}
use Rattle.witness.specs.declared.crossing.Crossing.{Crossing}
use Rattle.witness.specs.declared.crossing.Pairing.{Pairing}
use Rattle.witness.specs.declared.crossing.RunsTogether.{RunsTogether}
use Rattle.witness.specs.declared.crossing.RunsTogether.TheVariants.{Follows, Turns}
use Rattle.witness.specs.declared.step.WayStep.{WayStep}

-- the ways to both accesses are shortest ways in the program
pub record ArePaired (two : Pairing) : Type 0 where
  pub first : IsAim (program two.code.now) two.first.now
  pub second : IsAim (program two.code.now) two.second.now

-- two ways, and how they meet
pub record Crossed : Type 0 where
  pub meeting : RunsTogether
  pub pending : List WayStep
  pub later : List WayStep

-- the number of steps of both ways
abbrev pub both : Crossed → ℕ
both c = length c.pending + length c.later

abbrev pub plain : Crossing → Crossed
plain c = record { meeting = c.meeting; pending = c.pending.items; later = c.later.items }

abbrev pub crossed : Option Crossing → Option Crossed
crossed = option_map plain

-- the first way leaves x pending, from this statement; the second is the way that was found after
-- the statement
pub record IsAcross (p : Program) (l : ℕ) (s : Code) (x : Access) (behind : Option (List WayStep))
    (c : Crossed) : Type 0 where
  pub meeting : c.meeting ≡ Follows
  pub pending : WayOf p true l s c.pending x
  pub later : behind ≡ Some c.later

-- both ways start at this statement
pub record IsInTurn (p : Program) (l : ℕ) (s : Code) (x y : Access) (c : Crossed) : Type 0 where
  pub meeting : c.meeting ≡ Turns
  pub pending : WayOf p true l s c.pending x
  pub later : WayOf p false l s c.later y

-- both ways start at this `parts`
pub record IsInTurns (p : Program) (l s q : ℕ) (b : Codes) (x y : Access) (c : Crossed) : Type 0 where
  pub meeting : c.meeting ≡ Turns
  pub meets : MeetsInTurns p l s q b c.pending c.later x y

-- the shortest two ways that meet as described, found if there are any
abbrev pub IsShortestOf : Pairing → (Program → (x y : Access) → Crossed → Type 0) → Option Crossing → Type 0
IsShortestOf two meet found =
    IsLeast both all_covered
    (meet (program two.code.now) (access two.first.now.access) (access two.second.now.access)) (crossed found)

-- the plain value, with whether the first of two accesses is the one that is left pending
abbrev pub directed : Option (Bool × Crossing) → Option (Bool × Crossed)
directed = option_map (λ d. (d.0, plain d.1))

abbrev pub toward : (first_pends : Bool) → Option Crossing → Option (Bool × Crossed)
toward first_pends = option_map (λ c. (first_pends, plain c))

-- two ways start at statements of a list, or inside one of them
abbrev pub MeetIn : Program → Codes → (x y : Access) → Crossed → Type 0
MeetIn p b x y c = Meets p b c.meeting c.pending c.later x y

-- two ways start at a statement, or inside it
abbrev pub MeetAt : Program → (label : ℕ) → Code → (x y : Access) → Crossed → Type 0
MeetAt p l s x y c = MeetsAt p l s c.meeting c.pending c.later x y
