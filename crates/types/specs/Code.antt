-- Programs with resolved names. Scalars are slots of their procedure's frame, and sections are
-- numbers of their procedure. Arrays and procedures are numbers of the program.
use Rattle.std.specs.Prelude.{ℕ, ℤ, Bool, List}
use Rattle.sections.specs.Origins.{Origin}
use Rattle.syntax_tree.specs.declared.tree.ElementType.{ElementType}
use Rattle.syntax_tree.specs.declared.tree.Relation.{Relation}
use Rattle.types.specs.declared.code.Operator.{Operator}

-- a number expression; a chain is its first operand and the others, each after its operator
mutual
  pub data Number : Type 0 where
    Literal : ℤ → Number
    Scalar : (slot : ℕ) → Number
    Element : (section : ℕ) → (index : Number) → Number
    Length : (section : ℕ) → Number
    Negative : Number → Number
    Chain : (first : Number) → (rest : Links) → Number
    deriving IsSet as Number-set

  pub data Links : Type 0 where
    Done : Links
    Link : Operator → (operand : Number) → Links → Links
    deriving IsSet as Links-set

-- a boolean expression
mutual
  pub data Truth : Type 0 where
    Constant : Bool → Truth
    Compare : Relation → (left right : Number) → Truth
    Not : Truth → Truth
    Both : Truths → Truth
    Either : Truths → Truth
    deriving IsSet as Truth-set

  pub data Truths : Type 0 where
    NoMore : Truths
    Also : Truth → Truths → Truths
    deriving IsSet as Truths-set

-- a statement that runs in one step
pub data Primitive : Type 0 where
  Skip : Primitive
  Assign : (slot : ℕ) → (value : Number) → Primitive
  Store : (section : ℕ) → (index value : Number) → Primitive
  Print : (values : List Number) → Primitive
  Raise : (value : Number) → Primitive
  deriving IsSet as Primitive-set

-- a statement; and a list of statements, each after its label
mutual
  pub data Code : Type 0 where
    Do : Primitive → Code
    If : (guard : Truth) → (body other : Codes) → Code
    While : (guard : Truth) → (body : Codes) → Code
    Split : (section : ℕ) → (at : Number) → (left right : ℕ) → (body : Codes) → Code
    Parts : (section : ℕ) → (size : Number) → (piece turn : ℕ) → (body : Codes) → Code
    -- a `parts` that has begun: its turns from the one with the number `next` on, each with at most
    -- `size` places; it is in no text, and it remains only as long as a turn is left
    Begun : (section : ℕ) → (size next : ℕ) → (piece turn : ℕ) → (body : Codes) → Code
    Call : (procedure : ℕ) → (values : List Number) → (sections : List ℕ) → Code
    Async : (body : Codes) → Code
    Finish : (body : Codes) → Code
    -- a finish, and a handler of its faults, in which the scalar in the slot is their number
    Rescue : (body : Codes) → (faults : ℕ) → (handler : Codes) → Code
    deriving IsSet as Code-set

  pub data Codes : Type 0 where
    End : Codes
    Then : (label : ℕ) → Code → (rest : Codes) → Codes
    deriving IsSet as Codes-set

-- a declared array; its name is bytes
pub record Array : Type 0 where
  pub name : List ℕ
  pub element : ElementType
  pub length : ℕ

-- a section parameter
pub record Parameter : Type 0 where
  pub may_write : Bool
  pub element : ElementType

-- a procedure, or `main`; its section parameters are its first sections, and its scalar parameters
-- are its first slots
pub record Procedure : Type 0 where
  pub name : List ℕ
  pub parameters : List Parameter
  pub scalars : ℕ
  pub slots : ℕ
  pub sections : List Origin
  pub section_names : List (List ℕ)
  pub body : Codes

-- the parameters of `main` are the arrays, which may be written
pub record Program : Type 0 where
  pub arrays : List Array
  pub procedures : List Procedure
  pub main : Procedure
