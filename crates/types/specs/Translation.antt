-- The Rust types as plain trees, without their representation in memory.
use Rattle.std.specs.Prelude.{ℤ, List, [], ◌∷◌, map, pos, Bool, nat_eq}
use Rattle.std.specs.Cmp.Lexicographic.{pointwise}
use Rattle.std.specs.String.{string_bytes}
use Rattle.sections.specs.Place.{nowhere}
use Rattle.sections.specs.Translation.{section, window}
use Rattle.sections.specs.Tree.{origins_of}
use Rattle.types.specs.Code.{Number, Literal, Scalar, Element, Length, Negative, Chain, Links, Done, Link}
use Rattle.types.specs.Code.{Truth, Constant, Compare, Not, Both, Either, Truths, NoMore, Also, Primitive}
use Rattle.types.specs.Code.{Skip, Assign, Store, Print, Raise, Code, Do, If, While, Split, Parts, Call, Async}
use Rattle.types.specs.Code.{Finish, Rescue, Codes, End, Then, Array, Parameter, Procedure, Program}
use Rattle.types.specs.Value.{Environment}
use Rattle.types.specs.Run.{Fault, by_number}
use Rattle.types.specs.Outcome.{Budget, Outcome, Ended, Stopped}
use Rattle.types.specs.declared.code.Number.{Number as rNumber, Row_of-Link, end_of-Link, more_of-Link}
use Rattle.types.specs.declared.code.Number.TheVariants.{Literal as rLiteral, Scalar as rScalar}
use Rattle.types.specs.declared.code.Number.TheVariants.{Element' as rElement, Length as rLength}
use Rattle.types.specs.declared.code.Number.TheVariants.{Negative' as rNegative, Chain' as rChain}
use Rattle.types.specs.declared.code.Truth.{Truth as rTruth, Row_of-Truth, end_of-Truth, more_of-Truth}
use Rattle.types.specs.declared.code.Truth.TheVariants.{Constant as rConstant, Compare as rCompare}
use Rattle.types.specs.declared.code.Truth.TheVariants.{Not' as rNot, Both' as rBoth, Either' as rEither}
use Rattle.types.specs.declared.code.Primitive.{Primitive as rPrimitive}
use Rattle.types.specs.declared.code.Primitive.TheVariants.{Skip as rSkip, Assign as rAssign, Store as rStore}
use Rattle.types.specs.declared.code.Primitive.TheVariants.{Print as rPrint, Fault as rRaise}
use Rattle.types.specs.declared.code.Stmt.{Stmt}
use Rattle.types.specs.declared.code.StmtKind.{StmtKind, Row_of-Stmt, end_of-Stmt, more_of-Stmt}
use Rattle.types.specs.declared.code.StmtKind.TheVariants.{Do as rDo, If' as rIf, While' as rWhile}
use Rattle.types.specs.declared.code.StmtKind.TheVariants.{Split' as rSplit, Parts' as rParts, Call as rCall}
use Rattle.types.specs.declared.code.StmtKind.TheVariants.{Async' as rAsync, Finish' as rFinish}
use Rattle.types.specs.declared.code.StmtKind.TheVariants.{Rescue' as rRescue}
use Rattle.types.specs.declared.code.Array.{Array as rArray}
use Rattle.types.specs.declared.code.SectionParameter.{SectionParameter}
use Rattle.types.specs.declared.code.Procedure.{Procedure as rProcedure}
use Rattle.types.specs.declared.code.Program.{Program as rProgram}
use Rattle.types.specs.declared.value.Environment.{Environment as rEnvironment}
use Rattle.types.specs.declared.fault.Fault.{Fault as rFault}
use Rattle.types.specs.declared.budget.Budget.{Budget as rBudget}
use Rattle.types.specs.declared.input.Input.{Input}
use Rattle.types.specs.declared.path.Path.{Path}
use Rattle.types.specs.declared.outcome.Outcome.{Outcome as rOutcome}
use Rattle.types.specs.declared.outcome.Outcome.TheVariants.{Ended as rEnded, Stopped as rStopped}

abbrev mutual
  -- a number expression
  pub number : rNumber → Number
  number (rLiteral n) = Literal n
  number (rScalar x) = Scalar x.number
  number (rElement s p e) = Element s.number (number e)
  number (rLength s) = Length s.number
  number (rNegative p e) = Negative (number e)
  number (rChain p e q more) = Chain (number e) (links more)

  pub links : {m : _} → Row_of-Link m → Links
  links end_of-Link = Done
  links (more_of-Link o e more) = Link o (number e) (links more)

abbrev mutual
  -- a boolean expression
  pub truth : rTruth → Truth
  truth (rConstant b) = Constant b
  truth (rCompare r a b) = Compare r (number a) (number b)
  truth (rNot p t) = Not (truth t)
  truth (rBoth p ts) = Both (truths ts)
  truth (rEither p ts) = Either (truths ts)

  pub truths : {m : _} → Row_of-Truth m → Truths
  truths end_of-Truth = NoMore
  truths (more_of-Truth t ts) = Also (truth t) (truths ts)

-- a statement that runs in one step
abbrev pub primitive : rPrimitive → Primitive
primitive rSkip = Skip
primitive (rAssign x e) = Assign x.number (number e)
primitive (rStore s i e) = Store s.number (number i) (number e)
primitive (rPrint es) = Print (map number es.items)
primitive (rRaise e) = Raise (number e)

abbrev mutual
  -- a statement
  pub code : StmtKind → Code
  code (rDo s) = Do (primitive s)
  code (rIf t p b q c) = If (truth t) (row_codes b) (row_codes c)
  code (rWhile t p b) = While (truth t) (row_codes b)
  code (rSplit s p b) =
      Split s.section.number (number s.at) s.left.number s.right.number (row_codes b)
  code (rParts x p b) =
      Parts x.section.number (number x.size) x.piece.number x.turn.number (row_codes b)
  code (rCall f es ss) = Call f.number (map number es.items) (map section ss.items)
  code (rAsync p b) = Async (row_codes b)
  code (rFinish p b) = Finish (row_codes b)
  code (rRescue p b x q c) = Rescue (row_codes b) x.number (row_codes c)

  pub row_codes : {m : _} → Row_of-Stmt m → Codes
  row_codes end_of-Stmt = End
  row_codes (more_of-Stmt l s rest) = Then l (code s) (row_codes rest)

-- a block
abbrev pub codes : List Stmt → Codes
codes [] = End
codes (s ∷ rest) = Then s.label (code s.kind) (codes rest)

-- a declared array
abbrev pub array : rArray → Array
array a = record { name = string_bytes a.name; element = a.element; length = a.length }

-- a section parameter
abbrev pub parameter : SectionParameter → Parameter
parameter x = record { may_write = x.may_write; element = x.element }

-- a procedure, or `main`
abbrev pub procedure : rProcedure → Procedure
procedure f = record {
  name = string_bytes f.name;
  parameters = map parameter f.parameters.items;
  scalars = f.scalars;
  slots = f.slots;
  sections = origins_of f.sections;
  section_names = map string_bytes f.section_names.items;
  body = codes f.body.items;
}

-- a resolved program
abbrev pub program : rProgram → Program
program p = record {
  arrays = map array p.arrays.items;
  procedures = map procedure p.procedures.items;
  main = procedure p.main;
}

-- whether two paths are equal
abbrev pub is_path : (path other : Path) → Bool
is_path path other = pointwise nat_eq path.turns.items other.turns.items

-- a fault
abbrev pub fault : rFault → Fault
fault f = record { path = f.path.turns.items; label = f.label; kind = f.kind }

-- a budget
abbrev pub budget : rBudget → Budget
budget b = record { steps = b.steps; nest = b.nest }

-- the lists of an input, one for each array
abbrev pub input : Input → List (List ℤ)
input i = map (λ v. v.items) i.arrays.items

-- an outcome
abbrev pub outcome : rOutcome → Outcome
outcome (rEnded arrays lines faults) = Ended (record {
  arrays = map (λ v. v.items) arrays.items;
  lines = map (λ v. v.items) lines.items;
  faults = map fault faults.items;
})
outcome rStopped = Stopped

-- the contents of a frame
abbrev pub environment : rEnvironment → Environment
environment e = record {
  scalars = by_number (pos 0) e.scalars.items;
  windows = by_number nowhere (map window e.windows.items);
}
