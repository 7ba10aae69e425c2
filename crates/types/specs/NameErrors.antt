-- The errors of the names of a statement, by their meanings at its position. The statement has the
-- label.
use Rattle.std.specs.Prelude.{ℕ, List, [], ◌∷◌, Option, Some, None, nat_lt, if◌then◌else◌}
use Rattle.types.specs.declared.error.TypeError.{TypeError}
use Rattle.types.specs.declared.error.TypeError.TheVariants.{NotInScope, DeclaredTwice, WrongKind}
use Rattle.types.specs.declared.error.TypeError.TheVariants.{AssignedOutsideAsync, ReadOnly}
use Rattle.types.specs.Code.{Parameter}
use Rattle.types.specs.Scope.{Meant, ASection, AScalar, Scope, kind_of}

-- Y2: a name is declared while the same name is in scope; parameters, arrays and procedures have no label
abbrev pub declaring : Option ℕ → Option Meant → List TypeError
declaring label None = []
declaring label (Some m) = DeclaredTwice label ∷ []

module _ (label : ℕ) where
  -- Y1, Y3: the name of a section is expected
  abbrev pub naming_section : Option Meant → List TypeError
  naming_section None = NotInScope label ∷ []
  naming_section (Some (AScalar k)) = WrongKind label ∷ []
  naming_section (Some (ASection s)) = []

  -- Y1, Y3: the name of a scalar is expected
  abbrev pub naming_scalar : Option Meant → List TypeError
  naming_scalar None = NotInScope label ∷ []
  naming_scalar (Some (ASection s)) = WrongKind label ∷ []
  naming_scalar (Some (AScalar k)) = []

  -- Y6: a section is written that may not be written
  abbrev pub writing : Parameter → List TypeError
  writing kind = if kind.may_write then [] else ReadOnly label ∷ []

  -- Y1, Y3, Y6: the name of a section that may be written is expected
  abbrev pub naming_written : Scope → Option Meant → List TypeError
  naming_written here None = NotInScope label ∷ []
  naming_written here (Some (AScalar k)) = WrongKind label ∷ []
  naming_written here (Some (ASection s)) = writing (kind_of here s)

  -- Y1, Y3, Y5: the name of a scalar is expected that was declared inside the innermost async body
  abbrev pub naming_assigned : Scope → Option Meant → List TypeError
  naming_assigned here None = NotInScope label ∷ []
  naming_assigned here (Some (ASection s)) = WrongKind label ∷ []
  naming_assigned here (Some (AScalar k)) =
      if nat_lt k here.outside then AssignedOutsideAsync label ∷ [] else []
