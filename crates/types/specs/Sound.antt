-- The properties of a program that breaks no rule, once its names are resolved. Each line names the
-- rule of the language that guarantees it, or the resolution of names.
use Rattle.std.specs.Prelude.{ℕ, zero, suc, ◌+◌, ◌^◌, ◌<◌, ◌≤◌, ◌≡◌, ◌≢◌, List, [], ◌∷◌, length, map, Bool}
use Rattle.std.specs.Prelude.{true, false, ℤ, pos, negsuc, slice_get, slice_index_or, Some}
use Rattle.std.specs.List.{AllByRecursion, range_with_len}
use Rattle.syntax_tree.specs.declared.tree.ElementType.TheVariants.{Int}
use Rattle.sections.specs.Member.{Member}
use Rattle.sections.specs.Origins.{Root, Left, Right, Piece, origin_of, IsNumbered}
use Rattle.sections.specs.Overlap.{root_of, overlap}
use Rattle.types.specs.Code.{Number, Literal, Scalar, Element, Length, Negative, Chain, Links, Done, Link}
use Rattle.types.specs.Code.{Truth, Constant, Compare, Not, Both, Either, Truths, NoMore, Also, Primitive}
use Rattle.types.specs.Code.{Skip, Assign, Store, Print, Raise, Code, Do, If, While, Split, Parts, Begun}
use Rattle.types.specs.Code.{Call, Async, Finish, Rescue, Codes, End, Then, Array, Parameter, Procedure}
use Rattle.types.specs.Code.{Program}
use Rattle.types.specs.Labels.{labels_of_program}
use Rattle.types.specs.Run.{procedure_of}

-- a parameter that doesn't exist may not be written
abbrev pub no_parameter : Parameter
no_parameter = record { may_write = false; element = Int }

-- the parameter with a number, and whether it may be written
abbrev pub parameter_at : List Parameter → ℕ → Parameter
parameter_at parameters k = slice_index_or parameters k no_parameter

abbrev pub may_write : List Parameter → ℕ → Bool
may_write parameters k = (parameter_at parameters k).may_write

-- an array as a parameter of `main`
abbrev pub as_parameter : Array → Parameter
as_parameter a = record { may_write = true; element = a.element }

-- `count` numbers, starting at the first
abbrev pub numbers_from : (from count : ℕ) → List ℕ
numbers_from a zero = []
numbers_from a (suc n) = a ∷ numbers_from (a + 1) n

-- what is in scope where a procedure starts
abbrev pub parameters_of : Procedure → List ℕ
parameters_of g = numbers_from 0 (length g.parameters)

-- the section that is passed for parameter k
abbrev pub passed_for : (sections : List ℕ) → ℕ → ℕ
passed_for ss k = slice_index_or ss k 0

-- Y9: a literal is less than 2^63
abbrev pub IsLiteral : ℤ → Type 0
IsLiteral (pos n) = n < 2 ^ 63
IsLiteral (negsuc n) = ⊥

module _ (g : Procedure) where
  -- the parameter that contains a section of the procedure, and whether it may be written
  abbrev pub parameter_of : ℕ → Parameter
  parameter_of s = parameter_at g.parameters (root_of g.sections s)

  abbrev pub is_writable : ℕ → Bool
  is_writable s = may_write g.parameters (root_of g.sections s)

-- in a procedure, if the sections of the scope can be named
module _ (g : Procedure) (scope : List ℕ) where
  abbrev mutual
    -- Y1, Y3: the scalars and the sections that a number expression names exist
    pub NumberFollows : Number → Type 0
    NumberFollows (Literal v) = IsLiteral v
    NumberFollows (Scalar x) = x < g.slots
    NumberFollows (Element s i) = Member s scope × NumberFollows i
    NumberFollows (Length s) = Member s scope
    NumberFollows (Negative e) = NumberFollows e
    NumberFollows (Chain e rest) = NumberFollows e × LinksFollow rest

    pub LinksFollow : Links → Type 0
    LinksFollow Done = Unit {0}
    LinksFollow (Link o e rest) = NumberFollows e × LinksFollow rest

  abbrev mutual
    -- and those that a boolean expression names exist
    pub TruthFollows : Truth → Type 0
    TruthFollows (Constant b) = Unit {0}
    TruthFollows (Compare r a b) = NumberFollows a × NumberFollows b
    TruthFollows (Not t) = TruthFollows t
    TruthFollows (Both ts) = TruthsFollow ts
    TruthFollows (Either ts) = TruthsFollow ts

    pub TruthsFollow : Truths → Type 0
    TruthsFollow NoMore = Unit {0}
    TruthsFollow (Also t rest) = TruthFollows t × TruthsFollow rest

  -- a store to s
  pub record StoresWell (s : ℕ) (index value : Number) : Type 0 where
    -- Y1, Y3
    pub in_scope : Member s scope
    -- Y6
    pub writable : is_writable g s ≡ true
    pub at : NumberFollows index
    pub stored : NumberFollows value

  -- a statement of one step
  abbrev pub PrimitiveFollows : Primitive → Type 0
  PrimitiveFollows Skip = Unit {0}
  PrimitiveFollows (Assign x e) = (x < g.slots) × NumberFollows e
  PrimitiveFollows (Store s i e) = StoresWell s i e
  PrimitiveFollows (Print es) = AllByRecursion NumberFollows es
  PrimitiveFollows (Raise e) = NumberFollows e

  -- a split of s into l and r
  pub record SplitsWell (s l r : ℕ) : Type 0 where
    -- Y1, Y3
    pub in_scope : Member s scope
    -- resolution: the sides come from s and have consecutive numbers, after everything in scope
    pub left : origin_of g.sections l ≡ Left s
    pub right : origin_of g.sections r ≡ Right s
    pub next : r ≡ l + 1
    pub later : (x : ℕ) → Member x scope → x < l

  -- a `parts` of s with the piece x, the turn in slot i
  pub record CutsWell (s x i : ℕ) : Type 0 where
    -- Y1, Y3
    pub in_scope : Member s scope
    -- resolution: the piece comes from s, and its number is after everything in scope
    pub piece : origin_of g.sections x ≡ Piece s
    pub later : (y : ℕ) → Member y scope → y < x
    pub slot : i < g.slots

  -- section arguments ss for these parameters
  pub record PassesWell (parameters : List Parameter) (ss : List ℕ) : Type 0 where
    -- Y4: there are as many arguments as parameters, and each has the element type of its parameter
    pub number : length ss ≡ length parameters
    pub element : (k : ℕ) → k < length ss
        → (parameter_of g (passed_for ss k)).element ≡ (parameter_at parameters k).element
    -- Y1
    pub in_scope : (k : ℕ) → k < length ss → Member (passed_for ss k) scope
    -- Y6: if the callee may write a section, the caller may write it
    pub writable : (k : ℕ) → may_write parameters k ≡ true
        → is_writable g (passed_for ss k) ≡ true
    -- Y7: a `mut` argument overlaps no other
    pub alone : (k j : ℕ) → k ≢ j → j < length ss → may_write parameters k ≡ true
        → overlap g.sections (passed_for ss k) (passed_for ss j) ≡ false

module _ (p : Program) (g : Procedure) where
  -- a call of procedure f
  pub record CallsWell (scope : List ℕ) (f : ℕ) (es : List Number) (ss : List ℕ) : Type 0 where
    -- Y1
    pub there : f < length p.procedures
    -- Y4: there are as many scalar arguments as scalar parameters
    pub number : length es ≡ (procedure_of p f).scalars
    pub values : AllByRecursion (NumberFollows g scope) es
    pub passes : PassesWell g scope (procedure_of p f).parameters ss

  abbrev mutual
    -- the names inside a statement are used as the rules require
    pub FollowsOf : (scope : List ℕ) → Code → Type 0
    FollowsOf scope (Do s) = PrimitiveFollows g scope s
    FollowsOf scope (If t b c) = TruthFollows g scope t × Follows scope b × Follows scope c
    FollowsOf scope (While t b) = TruthFollows g scope t × Follows scope b
    FollowsOf scope (Split s e l r b) =
        SplitsWell g scope s l r × NumberFollows g scope e × Follows (l ∷ r ∷ scope) b
    FollowsOf scope (Parts s e x i b) =
        CutsWell g scope s x i × NumberFollows g scope e × Follows (x ∷ scope) b
    FollowsOf scope (Begun s n k x i b) = CutsWell g scope s x i × Follows (x ∷ scope) b
    FollowsOf scope (Call f es ss) = CallsWell scope f es ss
    FollowsOf scope (Async b) = Follows scope b
    FollowsOf scope (Finish b) = Follows scope b
    FollowsOf scope (Rescue b x c) = Follows scope b × (x < g.slots) × Follows scope c

    -- the names in a list of statements are used as the rules require
    pub Follows : (scope : List ℕ) → Codes → Type 0
    Follows scope End = Unit {0}
    Follows scope (Then l s rest) = FollowsOf scope s × Follows scope rest

abbrev mutual
  -- a statement, and a list of statements, as in a text: no `parts` has begun
  pub IsTextOf : Code → Type 0
  IsTextOf (Do s) = Unit {0}
  IsTextOf (If t b c) = IsText b × IsText c
  IsTextOf (While t b) = IsText b
  IsTextOf (Split s e l r b) = IsText b
  IsTextOf (Parts s e x i b) = IsText b
  IsTextOf (Begun s n k x i b) = ⊥
  IsTextOf (Call f es ss) = Unit {0}
  IsTextOf (Async b) = IsText b
  IsTextOf (Finish b) = IsText b
  IsTextOf (Rescue b x c) = IsText b × IsText c

  pub IsText : Codes → Type 0
  IsText End = Unit {0}
  IsText (Then l s rest) = IsTextOf s × IsText rest

-- a procedure follows the rules
pub record IsSoundIn (p : Program) (g : Procedure) : Type 0 where
  -- resolution: its first sections are its parameters, and its first slots are its scalar
  -- parameters
  pub first : (k : ℕ) → k < length g.parameters → slice_get g.sections k ≡ Some Root
  pub scalars : g.scalars ≤ g.slots
  -- resolution: a side or a piece has a larger number than the section that it comes from
  pub numbered : IsNumbered g.sections
  pub body : Follows p g (parameters_of g) g.body
  pub text : IsText g.body

-- resolution: the section parameters of `main` are the arrays
abbrev pub HasArrays : Program → Type 0
HasArrays p = p.main.parameters ≡ map as_parameter p.arrays

-- every procedure follows the rules, including `main`
pub record IsSound (p : Program) : Type 0 where
  pub procedures : (f : ℕ) → IsSoundIn p (procedure_of p f)
  pub main : IsSoundIn p p.main
  pub arrays : HasArrays p
  pub no_scalars : p.main.scalars ≡ 0
  -- resolution: the labels are 1, 2 and so on, in the order of the text
  pub labels : labels_of_program p ≡ range_with_len 1 (length (labels_of_program p))
  -- Y9
  pub few_labels : length (labels_of_program p) ≤ 65535
