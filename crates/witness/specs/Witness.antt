-- The witness of a race.
use Rattle.std.specs.Prelude.{◌≡◌, ◌+◌, ◌<◌, ◌≤◌, Bool, false, true, List, length, Option, Some}
use Rattle.std.specs.Prelude.{if◌then◌else◌}
use Rattle.types.specs.Code.{Codes, Program}
use Rattle.effects.specs.Accesses.{Access}
use Rattle.race_checker.specs.Races.{Race, numbered}
use Rattle.witness.specs.Crossed.{Crossed, MeetIn, both}
use Rattle.witness.specs.Sharing.{Shares}
use Rattle.witness.specs.Meets.{Meets}
use Rattle.witness.specs.declared.crossing.RunsTogether.{RunsTogether}
use Rattle.witness.specs.declared.step.WayStep.{WayStep}
use Rattle.witness.specs.declared.witness.Witness.{Witness}

-- the access of a race that is left pending, and the access that is done after it
abbrev pub pending_one : (first_pends : Bool) → Race → Access
pending_one first_pends r = if first_pends then r.first else r.second

abbrev pub later_one : (first_pends : Bool) → Race → Access
later_one first_pends r = if first_pends then r.second else r.first

-- two ways show a race: by the rules of the table, they lead to its two accesses
abbrev pub Shows : Program → Race → (first_pends : Bool) → RunsTogether → (pending later : List WayStep)
    → Type 0
Shows p r first_pends kind pending later =
    Meets p (numbered p r.procedure).body kind pending later
    (pending_one first_pends r) (later_one first_pends r)

-- two ways in a list show a race
abbrev pub ShowIn : Program → Codes → Race → Bool × Crossed → Type 0
ShowIn p b r d = MeetIn p b (pending_one d.0 r) (later_one d.0 r) d.1

-- a witness of a race
pub record IsWitness (p : Program) (r : Race) (w : Witness) : Type 0 where
  pub shows : Shows p r w.first_pends w.meeting w.pending.items w.later.items
  pub sharing : Shares (numbered p r.procedure).sections r.first.section r.second.section w.sharing

-- two ways show the race, with either of its accesses left pending
pub record IsShown (p : Program) (r : Race) : Type 0 where
  pub first_pends : Bool
  pub meeting : RunsTogether
  pub pending : List WayStep
  pub later : List WayStep
  pub shows : Shows p r first_pends meeting pending later

-- no two ways that show the race have fewer steps
pub record IsShortest (p : Program) (r : Race) (w : Witness) : Type 0 where
  pub fewest : (first_pends : Bool) (kind : RunsTogether) (pending later : List WayStep)
      → Shows p r first_pends kind pending later
      → length w.pending.items + length w.later.items ≤ length pending + length later

-- the first access is the one left pending, unless all ways that leave it pending have more steps
pub record PrefersFirst (p : Program) (r : Race) (w : Witness) : Type 0 where
  pub more : w.first_pends ≡ false → (kind : RunsTogether) (pending later : List WayStep)
      → Shows p r true kind pending later
      → length w.pending.items + length w.later.items < length pending + length later

-- ways that leave the second access pending are found only if all these have more steps
pub record PrefersThese (those : Crossed → Type 0) (found : Option (Bool × Crossed)) : Type 0 where
  pub more : (d : Bool × Crossed) → found ≡ Some d → d.0 ≡ false → (c : Crossed) → those c
      → both d.1 < both c
