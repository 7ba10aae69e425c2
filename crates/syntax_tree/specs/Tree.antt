-- Programs as plain trees, without their representation in memory. A name is the list of its bytes.
use Rattle.std.specs.Prelude.{ℕ, Bool, true, false, List, [], ◌∷◌, Option, None, Some, map}
use Rattle.std.specs.Option.{option_map}
use Rattle.std.specs.String.{string_bytes}
use Rattle.syntax_tree.specs.declared.tree.ElementType.{ElementType}
use Rattle.syntax_tree.specs.declared.tree.Relation.{Relation}
use Rattle.syntax_tree.specs.declared.tree.Sign.{Sign}
use Rattle.syntax_tree.specs.declared.tree.Operator.{Operator}
use Rattle.syntax_tree.specs.declared.tree.Expr.{Expr as rExpr, Expr' as rOr, Row_of-Conj}
use Rattle.syntax_tree.specs.declared.tree.Expr.{end_of-Conj, more_of-Conj}
use Rattle.syntax_tree.specs.declared.tree.Conj.{Conj as rConj, Conj' as rAnd, Row_of-Neg}
use Rattle.syntax_tree.specs.declared.tree.Conj.{end_of-Neg, more_of-Neg}
use Rattle.syntax_tree.specs.declared.tree.Neg.{Neg as rNeg, Neg' as rNot}
use Rattle.syntax_tree.specs.declared.tree.Cmp.{Cmp as rCmp, Cmp' as rCompare, Held-Cmp-right}
use Rattle.syntax_tree.specs.declared.tree.Cmp.{None' as no_right, Some' as some_right}
use Rattle.syntax_tree.specs.declared.tree.Compared.{Compared as rCompared, Compared' as rRight}
use Rattle.syntax_tree.specs.declared.tree.Sum.{Sum as rSum, Sum' as rAdd, Row_of-Term}
use Rattle.syntax_tree.specs.declared.tree.Sum.{end_of-Term, more_of-Term}
use Rattle.syntax_tree.specs.declared.tree.Term.{Term as rTerm, Term' as rSigned}
use Rattle.syntax_tree.specs.declared.tree.Prod.{Prod as rProd, Prod' as rMultiply, Row_of-Factor}
use Rattle.syntax_tree.specs.declared.tree.Prod.{end_of-Factor, more_of-Factor}
use Rattle.syntax_tree.specs.declared.tree.Factor.{Factor as rFactor}
use Rattle.syntax_tree.specs.declared.tree.Unary.{Unary as rUnary}
use Rattle.syntax_tree.specs.declared.tree.Atom.{Atom as rAtom, Number as rNumber, True as rTrue}
use Rattle.syntax_tree.specs.declared.tree.Atom.{False as rFalse, Name as rName, Element' as rElement}
use Rattle.syntax_tree.specs.declared.tree.Atom.{Length as rLength, Parens' as rParens}
use Rattle.syntax_tree.specs.declared.tree.Stmt.{Stmt as rStmt, Row_of-Stmt, end_of-Stmt, more_of-Stmt}
use Rattle.syntax_tree.specs.declared.tree.Stmt.{Held-Stmt-If-2, None' as no_else, Some' as some_else}
use Rattle.syntax_tree.specs.declared.tree.Stmt.{Skip as rSkip, Var as rVar, Assign as rAssign}
use Rattle.syntax_tree.specs.declared.tree.Stmt.{Store as rStore, Print as rPrint, Fault as rFault}
use Rattle.syntax_tree.specs.declared.tree.Stmt.{If' as rIf, While' as rWhile, Split' as rSplit}
use Rattle.syntax_tree.specs.declared.tree.Stmt.{Parts' as rParts, Call as rCall, Async' as rAsync, Finish' as rFinish}
use Rattle.syntax_tree.specs.declared.tree.Stmt.{Rescue' as rRescue}
use Rattle.syntax_tree.specs.declared.tree.Array.{Array as rArray}
use Rattle.syntax_tree.specs.declared.tree.Parameter.{Parameter as rParameter}
use Rattle.syntax_tree.specs.declared.tree.Parameter.TheVariants.{Written as rWritten, Read as rRead}
use Rattle.syntax_tree.specs.declared.tree.Parameter.TheVariants.{Scalar as rScalar}
use Rattle.syntax_tree.specs.declared.tree.Procedure.{Procedure as rProcedure}
use Rattle.syntax_tree.specs.declared.tree.Main.{Main as rMain}
use Rattle.syntax_tree.specs.declared.tree.Program.{Program as rProgram}

mutual
  -- a chain of `or`
  pub data Expr : Type 0 where
    Or : Conj → Conjs → Expr

  -- the operands after the first, each after an `or`
  pub data Conjs : Type 0 where
    NoConj : Conjs
    OrConj : Conj → Conjs → Conjs

  -- a chain of `and`
  pub data Conj : Type 0 where
    And : Neg → Negs → Conj

  pub data Negs : Type 0 where
    NoNeg : Negs
    AndNeg : Neg → Negs → Negs

  pub data Neg : Type 0 where
    Plainly : Cmp → Neg
    Not : Cmp → Neg

  pub data Cmp : Type 0 where
    Alone : Sum → Cmp
    Compare : Sum → Relation → Sum → Cmp

  -- a chain of signs
  pub data Sum : Type 0 where
    Add : Prod → Terms → Sum

  pub data Terms : Type 0 where
    NoTerm : Terms
    AddTerm : Sign → Prod → Terms → Terms

  -- a chain of `*`, `/` and `%`
  pub data Prod : Type 0 where
    Multiply : Unary → Factors → Prod

  pub data Factors : Type 0 where
    NoFactor : Factors
    MultiplyFactor : Operator → Unary → Factors → Factors

  pub data Unary : Type 0 where
    Positive : Atom → Unary
    Negative : Atom → Unary

  pub data Atom : Type 0 where
    Number : ℕ → Atom
    True : Atom
    False : Atom
    Name : List ℕ → Atom
    Element : (section : List ℕ) → (index : Expr) → Atom
    Length : List ℕ → Atom
    Parens : Expr → Atom

mutual
  pub data Stmt : Type 0 where
    Skip : Stmt
    Var : List ℕ → Expr → Stmt
    Assign : List ℕ → Expr → Stmt
    Store : (section : List ℕ) → (index value : Expr) → Stmt
    Print : Expr → List Expr → Stmt
    Fault : Expr → Stmt
    If : Expr → Block → Stmt
    IfElse : Expr → Block → Block → Stmt
    While : Expr → Block → Stmt
    Split : (section : List ℕ) → (at : Expr) → (left right : List ℕ) → Block → Stmt
    Parts : (section : List ℕ) → (size : Expr) → (piece turn : List ℕ) → Block → Stmt
    Call : List ℕ → List Expr → Stmt
    Async : Block → Stmt
    Finish : Block → Stmt
    Rescue : (body : Block) → (faults : List ℕ) → (handler : Block) → Stmt

  -- a list of statements
  pub data Block : Type 0 where
    End : Block
    Then : Stmt → Block → Block

pub record Array : Type 0 where
  pub name : List ℕ
  pub element : ElementType
  pub length : ℕ

pub data Parameter : Type 0 where
  Written : List ℕ → ElementType → Parameter
  Read : List ℕ → ElementType → Parameter
  Scalar : List ℕ → Parameter

pub record Procedure : Type 0 where
  pub name : List ℕ
  pub parameters : List Parameter
  pub body : Block

pub record Main : Type 0 where
  pub arrays : List Array
  pub body : Block

pub record Program : Type 0 where
  pub procedures : List Procedure
  pub main : Option Main

-- The trees of the Rust types.

abbrev pub negated : Bool → Cmp → Neg
negated false c = Plainly c
negated true c = Not c

abbrev pub negative : Bool → Atom → Unary
negative false a = Positive a
negative true a = Negative a

unfoldable mutual
  pub expr : rExpr → Expr
  expr (rOr first _ rest) = Or (conj first) (row_conjs rest)

  pub row_conjs : {m : _} → Row_of-Conj m → Conjs
  row_conjs end_of-Conj = NoConj
  row_conjs (more_of-Conj c rest) = OrConj (conj c) (row_conjs rest)

  pub conj : rConj → Conj
  conj (rAnd first _ rest) = And (neg first) (row_negs rest)

  pub row_negs : {m : _} → Row_of-Neg m → Negs
  row_negs end_of-Neg = NoNeg
  row_negs (more_of-Neg n rest) = AndNeg (neg n) (row_negs rest)

  pub neg : rNeg → Neg
  neg (rNot b c) = negated b (cmp c)

  pub cmp : rCmp → Cmp
  cmp (rCompare left right) = compared (sum left) right

  pub compared : Sum → Held-Cmp-right → Cmp
  compared left no_right = Alone left
  compared left (some_right right) = compared_to left right

  pub compared_to : Sum → rCompared → Cmp
  compared_to left (rRight relation _ right) = Compare left relation (sum right)

  pub sum : rSum → Sum
  sum (rAdd first _ rest) = Add (prod first) (row_terms rest)

  pub row_terms : {m : _} → Row_of-Term m → Terms
  row_terms end_of-Term = NoTerm
  row_terms (more_of-Term t rest) = term t (row_terms rest)

  pub term : rTerm → Terms → Terms
  term (rSigned sign p) rest = AddTerm sign (prod p) rest

  pub prod : rProd → Prod
  prod (rMultiply b a _ rest) = Multiply (negative b (atom a)) (row_factors rest)

  pub row_factors : {m : _} → Row_of-Factor m → Factors
  row_factors end_of-Factor = NoFactor
  row_factors (more_of-Factor operator b a rest) =
      MultiplyFactor operator (negative b (atom a)) (row_factors rest)

  pub atom : rAtom → Atom
  atom (rNumber n) = Number n
  atom rTrue = True
  atom rFalse = False
  atom (rName s) = Name (string_bytes s)
  atom (rElement s _ e) = Element (string_bytes s) (expr e)
  atom (rLength s) = Length (string_bytes s)
  atom (rParens _ e) = Parens (expr e)

abbrev pub unary : rUnary → Unary
unary u = negative u.negative (atom u.atom)

abbrev pub factor : rFactor → Factors → Factors
factor f rest = MultiplyFactor f.operator (unary f.operand) rest

abbrev pub conjs : List rConj → Conjs
conjs [] = NoConj
conjs (c ∷ rest) = OrConj (conj c) (conjs rest)

abbrev pub negs : List rNeg → Negs
negs [] = NoNeg
negs (n ∷ rest) = AndNeg (neg n) (negs rest)

abbrev pub terms : List rTerm → Terms
terms [] = NoTerm
terms (t ∷ rest) = term t (terms rest)

abbrev pub factors : List rFactor → Factors
factors [] = NoFactor
factors (f ∷ rest) = factor f (factors rest)

abbrev pub exprs : List rExpr → List Expr
exprs = map expr

unfoldable mutual
  pub stmt : rStmt → Stmt
  stmt rSkip = Skip
  stmt (rVar x e) = Var (string_bytes x) (expr e)
  stmt (rAssign x e) = Assign (string_bytes x) (expr e)
  stmt (rStore s i e) = Store (string_bytes s) (expr i) (expr e)
  stmt (rPrint e es) = Print (expr e) (exprs es.items)
  stmt (rFault e) = Fault (expr e)
  stmt (rIf e _ b other) = conditional (expr e) (row_block b) other
  stmt (rWhile e _ b) = While (expr e) (row_block b)
  stmt (rSplit s e l r _ b) = Split (string_bytes s) (expr e) (string_bytes l) (string_bytes r) (row_block b)
  stmt (rParts s e p i _ b) = Parts (string_bytes s) (expr e) (string_bytes p) (string_bytes i) (row_block b)
  stmt (rCall f es) = Call (string_bytes f) (exprs es.items)
  stmt (rAsync _ b) = Async (row_block b)
  stmt (rFinish _ b) = Finish (row_block b)
  stmt (rRescue _ b x _ c) = Rescue (row_block b) (string_bytes x) (row_block c)

  pub conditional : Expr → Block → Held-Stmt-If-2 → Stmt
  conditional e b no_else = If e b
  conditional e b (some_else _ c) = IfElse e b (row_block c)

  pub row_block : {m : _} → Row_of-Stmt m → Block
  row_block end_of-Stmt = End
  row_block (more_of-Stmt s rest) = Then (stmt s) (row_block rest)

abbrev pub block : List rStmt → Block
block [] = End
block (s ∷ rest) = Then (stmt s) (block rest)

abbrev pub array : rArray → Array
array a = record { name = string_bytes a.name; element = a.element; length = a.length }

abbrev pub parameter : rParameter → Parameter
parameter (rWritten x e) = Written (string_bytes x) e
parameter (rRead x e) = Read (string_bytes x) e
parameter (rScalar x) = Scalar (string_bytes x)

abbrev pub procedure : rProcedure → Procedure
procedure p = record {
  name = string_bytes p.name;
  parameters = map parameter p.parameters.items;
  body = block p.body.items;
}

abbrev pub main : rMain → Main
main m = record { arrays = map array m.arrays.items; body = block m.body.items }

abbrev pub program : rProgram → Program
program p = record { procedures = map procedure p.procedures.items; main = option_map main p.main }

-- The atom of an expression that is a single atom, without operators, `not`, sign or comparison.

abbrev pub atom_of_unary : Unary → Option Atom
atom_of_unary (Positive a) = Some a
atom_of_unary (Negative a) = None

abbrev pub atom_of_prod : Prod → Option Atom
atom_of_prod (Multiply u NoFactor) = atom_of_unary u
atom_of_prod (Multiply u (MultiplyFactor o v rest)) = None

abbrev pub atom_of_sum : Sum → Option Atom
atom_of_sum (Add p NoTerm) = atom_of_prod p
atom_of_sum (Add p (AddTerm s q rest)) = None

abbrev pub atom_of_neg : Neg → Option Atom
atom_of_neg (Plainly (Alone s)) = atom_of_sum s
atom_of_neg (Plainly (Compare s r t)) = None
atom_of_neg (Not c) = None

abbrev pub atom_of_conj : Conj → Option Atom
atom_of_conj (And n NoNeg) = atom_of_neg n
atom_of_conj (And n (AndNeg m rest)) = None

abbrev pub lone_atom : Expr → Option Atom
lone_atom (Or c NoConj) = atom_of_conj c
lone_atom (Or c (OrConj d rest)) = None
