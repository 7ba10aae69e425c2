-- Which environments fit a procedure: the windows of its sections are related as their origins say.
use Rattle.std.specs.Prelude.{ℕ, ◌+◌, ◌≤◌, List}
use Rattle.sections.specs.Member.{Member}
use Rattle.sections.specs.Place.{Window}
use Rattle.sections.specs.Placed.{Names, Placed}
use Rattle.types.specs.Code.{Procedure, Program}
use Rattle.types.specs.Value.{Environment}
use Rattle.types.specs.Run.{array_of}
use Rattle.effects.specs.Sound.{may_write}

-- a window lies in its array
abbrev pub LiesInArray : Program → Window → Type 0
LiesInArray p w = w.at + w.length ≤ (array_of p w.array).length

-- the sections of a procedure that may be named where this is the scope
abbrev pub names_in : Procedure → (scope : List ℕ) → Names
names_in g scope =
    record { origins = g.sections; may_write = may_write g.parameters; scope = scope }

-- an environment fits a procedure in which the sections of the scope may be named
pub record Fits (p : Program) (g : Procedure) (scope : List ℕ) (env : Environment) : Type 0 where
  pub lies : (s : ℕ) → Member s scope → LiesInArray p (env.windows s)
  pub placed : Placed (names_in g scope) env.windows
