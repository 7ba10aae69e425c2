-- The contents of the Rust values of the type checker: the names and the scope at a position, and
-- what a part resolves to.
use Rattle.std.specs.Prelude.{ℕ, ◌+◌, ◌-◌, ◌≡◌, ◌<◌, ◌≤◌, List, [], map, reverse, length, drop, Some, String}
use Rattle.std.specs.String.{string_bytes}
use Rattle.sections.specs.Tree.{origins_of}
use Rattle.syntax_tree.specs.Tree.{Stmt, Procedure}
use Rattle.syntax_tree.specs.Tree as tree
use Rattle.types.specs.declared.check.calls.Passed.{Passed as rPassed}
use Rattle.types.specs.declared.check.procedures.Procedures.{Procedures as rProcedures}
use Rattle.types.specs.declared.check.names.Meaning.{Meaning}
use Rattle.types.specs.declared.check.names.Meaning.TheVariants.{Section as rSection, Scalar as rScalar}
use Rattle.types.specs.declared.check.names.Names.{Names as rNames}
use Rattle.types.specs.declared.check.scope.NameScope.{NameScope as rScope}
use Rattle.types.specs.CallErrors.{Passed}
use Rattle.types.specs.Scope.{Meant, ASection, AScalar, Names, meant, Scope, behind}
use Rattle.types.specs.declared.code.StmtKind.{StmtKind}
use Rattle.types.specs.Resolution.{code as code_at}
use Rattle.types.specs.Rules.{errors_in}
use Rattle.types.specs.Translation.{parameter, code}

-- what a name means
abbrev pub meant_by : Meaning → Meant
meant_by (rSection s) = ASection s.number
meant_by (rScalar k) = AScalar k.number

-- the names in scope
abbrev pub entry : {Z : Type 0} → String Z × Meaning → List ℕ × Meant
entry e = (string_bytes e.0, meant_by e.1)

abbrev pub names_of : rNames → Names
names_of n = reverse (map entry n.meanings.entries)

-- the position that has been reached
abbrev pub scope_of : rScope → Scope
scope_of s = record {
  names = names_of s.names;
  label = s.label;
  slot = s.slots;
  outside = s.outside;
  sections = origins_of s.sections;
  section_names = map string_bytes s.section_names.items;
  kinds = map parameter s.kinds.items;
}

-- a position with only the names, and the assignable scalars, of an earlier one
abbrev pub left : (names outside : ℕ) → Scope → Scope
left n k there = record there { names = drop (length there.names - n) there.names; outside = k }

-- a section argument
abbrev pub passed_by : rPassed → Passed
passed_by p = (p.section.number, p.may_write)

-- the sections in scope have numbers of sections, each of which has its kind; and the next slot is
-- at most 16 more than the next label
pub record IsWellScoped (here : Scope) : Type 0 where
  pub known : (x : List ℕ) (s : ℕ) → meant x here.names ≡ Some (ASection s) → s < length here.sections
  pub kinds : length here.kinds ≡ length here.sections
  pub slots : here.slot ≤ 16 + here.label

-- the procedures that can be called
abbrev pub procedures_of : rProcedures → List Procedure
procedures_of p = map tree.procedure p.declared.now

module _ (procedures : List Procedure) (here : Scope) (s : Stmt) where
  -- a statement breaks no rule; its resolution, and the scope after it
  pub record Resolves (k : StmtKind) (there : Scope) : Type 0 where
    pub right : errors_in procedures here s ≡ []
    pub kind : code_at procedures here s ≡ code k
    pub place : there ≡ behind s here
