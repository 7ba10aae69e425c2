-- Which pairs of accesses clash, and which programs are accepted.
use Rattle.std.specs.Prelude.{ℕ, ◌≡◌, List, true, ◌||◌}
use Rattle.sections.specs.Origins.{Origin}
use Rattle.sections.specs.Overlap.{overlap}
use Rattle.types.specs.Code.{Procedure, Program}
use Rattle.types.specs.Run.{procedure_of}
use Rattle.effects.specs.Accesses.{Access}
use Rattle.effects.specs.Effects.{accesses}
use Rattle.parallel_relation.specs.Together.{Together}

-- one of two accesses writes, and their sections may share a place
pub record Clash (origins : List Origin) (x y : Access) : Type 0 where
  pub writes : (x.write || y.write) ≡ true
  pub overlap : overlap origins x.section y.section ≡ true

-- no two accesses of the procedure that may run together clash
abbrev pub HasNoClash : Program → Procedure → Type 0
HasNoClash p f = (x y : Access) → Together p accesses f.body x y → Clash f.sections x y → ⊥

-- no procedure has a clash, nor has `main`
pub record IsAccepted (p : Program) : Type 0 where
  pub procedures : (f : ℕ) → HasNoClash p (procedure_of p f)
  pub main : HasNoClash p p.main
