-- Which clash of a program is reported: the least one.
use Rattle.std.specs.Prelude.{ℕ, ◌≡◌, ◌⊎◌, List, [], ◌∷◌, Bool, false, nat_eq}
use Rattle.std.specs.Prelude.{if◌then◌else◌, length, Option, MatchOption}
use Rattle.sections.specs.Origins.{Origin}
use Rattle.types.specs.Code.{Procedure, Program}
use Rattle.types.specs.Run.{procedure_of}
use Rattle.effects.specs.Accesses.{Access}
use Rattle.effects.specs.Effects.{accesses}
use Rattle.parallel_relation.specs.Together.{Together}
use Rattle.race_checker.specs.Clash.{Clash}
-- the order of accesses is defined with the pairs that may run together
pub use Rattle.parallel_relation.specs.Order.{kind_number, is_less, access_key}

-- a clash as it is reported: a procedure, where `main` is numbered after the others, and two
-- accesses
pub record Race : Type 0 where
  pub procedure : ℕ
  pub first : Access
  pub second : Access

-- races are ordered by both labels, then by procedure, then by what each access does
abbrev pub race_key : Race → List ℕ
race_key r =
    r.first.label ∷ r.second.label ∷ r.procedure ∷ r.first.section ∷ kind_number r.first.write
    ∷ r.second.section ∷ kind_number r.second.write ∷ []

-- one race is reported before the other
abbrev pub comes_before : Race → Race → Bool
comes_before r s = is_less (race_key r) (race_key s)

-- two accesses of such a pair clash in this procedure; a pair has no order, but the race has the
-- lesser access first
pub record Clashes (origins : List Origin) (f : ℕ) (pairs : (x y : Access) → Type 0) (r : Race)
    : Type 0 where
  pub procedure : r.procedure ≡ f
  pub pair : pairs r.first r.second ⊎ pairs r.second r.first
  pub clash : Clash origins r.first r.second
  pub order : is_less (access_key r.second) (access_key r.first) ≡ false

-- the procedure with this number; `main` is numbered after the others
abbrev pub numbered : Program → ℕ → Procedure
numbered p f = if nat_eq f (length p.procedures) then p.main else procedure_of p f

-- a race of a procedure: two accesses that may run together in it clash
abbrev pub IsRaceIn : Program → (f : ℕ) → Race → Type 0
IsRaceIn p f = Clashes (numbered p f).sections f (Together p accesses (numbered p f).body)

-- a race of a program
abbrev pub IsRace : Program → Race → Type 0
IsRace p r = IsRaceIn p r.procedure r

-- one of these races, such that no other comes before it
pub record IsLeast (those : Race → Type 0) (r : Race) : Type 0 where
  pub among : those r
  pub least : (other : Race) → those other → comes_before other r ≡ false

-- the least of these races, if there are any
abbrev pub LeastOf : (those : Race → Type 0) → Option Race → Type 0
LeastOf those found = MatchOption found ((r : Race) → those r → ⊥) (IsLeast those)

-- the race that is reported for a program
abbrev pub IsLeastRace : Program → Race → Type 0
IsLeastRace p = IsLeast (IsRace p)
