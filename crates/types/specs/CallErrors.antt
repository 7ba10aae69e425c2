-- The errors of a call.
use Rattle.std.specs.Prelude.{ℕ, List, [], ◌∷◌, ◌++◌, Bool, true, false, ◌&&◌, ◌||◌, Option}
use Rattle.std.specs.Prelude.{Some, None, if◌then◌else◌}
use Rattle.std.specs.List.{list_any}
use Rattle.syntax_tree.specs.declared.tree.ElementType.{ElementType}
use Rattle.syntax_tree.specs.declared.tree.ElementType.TheVariants.{Int, Byte}
use Rattle.syntax_tree.specs.Tree.{Expr, Atom, Number, True, False, Name, Element, Length, Parens, lone_atom}
use Rattle.syntax_tree.specs.Tree.{Parameter as Declared, Written, Read, Scalar}
use Rattle.types.specs.declared.error.TypeError.{TypeError}
use Rattle.types.specs.declared.error.TypeError.TheVariants.{NotInScope, WrongArguments, Overlapping}
use Rattle.sections.specs.Origins.{Origin}
use Rattle.types.specs.Code.{Parameter}
use Rattle.types.specs.ExpressionErrors.{number}
use Rattle.types.specs.NameErrors.{writing}
use Rattle.sections.specs.Overlap.{overlap}
use Rattle.types.specs.Scope.{Names, Meant, ASection, AScalar, meant, Scope, kind_of}

-- whether two sections have the same element type
abbrev pub same_element : ElementType → ElementType → Bool
same_element Int Int = true
same_element Byte Byte = true
same_element Int Byte = false
same_element Byte Int = false

-- a section argument: its number, and whether it may be written
abbrev pub Passed : Type 0
Passed = ℕ × Bool

-- the argument with this meaning, if it is a section's name, before other arguments
abbrev pub and_passed : Option Meant → (may_write : Bool) → List Passed → List Passed
and_passed None w rest = rest
and_passed (Some (AScalar k)) w rest = rest
and_passed (Some (ASection s)) w rest = (s, w) ∷ rest

abbrev pub and_named : Names → Option Atom → (may_write : Bool) → List Passed → List Passed
and_named names (Some (Name x)) w rest = and_passed (meant x names) w rest
and_named names (Some (Number n)) w rest = rest
and_named names (Some True) w rest = rest
and_named names (Some False) w rest = rest
and_named names (Some (Element s i)) w rest = rest
and_named names (Some (Length s)) w rest = rest
and_named names (Some (Parens e)) w rest = rest
and_named names None w rest = rest

-- the section arguments of a call, for these parameters
abbrev pub passed : Names → List Declared → List Expr → List Passed
passed names (Written x t ∷ ps) (e ∷ es) = and_named names (lone_atom e) true (passed names ps es)
passed names (Read x t ∷ ps) (e ∷ es) = and_named names (lone_atom e) false (passed names ps es)
passed names (Scalar x ∷ ps) (e ∷ es) = passed names ps es
passed names ps es = []

module _ (sections : List Origin) where
  -- two arguments, one of which may be written, overlap
  abbrev pub clash : Passed → Passed → Bool
  clash a b = (a.1 || b.1) && overlap sections a.0 b.0

  -- some argument overlaps a later one, and one of the two may be written
  abbrev pub overlapping : List Passed → Bool
  overlapping [] = false
  overlapping (a ∷ rest) = list_any (clash a) rest || overlapping rest

module _ (label : ℕ) (here : Scope) where
  -- Y4
  abbrev pub wrong_arguments : List TypeError
  wrong_arguments = WrongArguments label ∷ []

  -- Y4: a section has another element type than the parameter; Y6: it may not be written, but the
  -- parameter may be
  abbrev pub passing : (parameter argument : Parameter) → List TypeError
  passing p a =
      (if same_element p.element a.element then [] else wrong_arguments)
      ++ (if p.may_write then writing label a else [])

  -- Y1: a name isn't in scope; Y4: it is no section's name
  abbrev pub passing_named : (parameter : Parameter) → Option Meant → List TypeError
  passing_named p None = NotInScope label ∷ []
  passing_named p (Some (AScalar k)) = wrong_arguments
  passing_named p (Some (ASection s)) = passing p (kind_of here s)

  -- Y4: an argument is no single name
  abbrev pub passing_atom : (parameter : Parameter) → Option Atom → List TypeError
  passing_atom p (Some (Name x)) = passing_named p (meant x here.names)
  passing_atom p (Some (Number n)) = wrong_arguments
  passing_atom p (Some True) = wrong_arguments
  passing_atom p (Some False) = wrong_arguments
  passing_atom p (Some (Element s i)) = wrong_arguments
  passing_atom p (Some (Length s)) = wrong_arguments
  passing_atom p (Some (Parens e)) = wrong_arguments
  passing_atom p None = wrong_arguments

  -- an argument for a parameter
  abbrev pub argument : Declared → Expr → List TypeError
  argument (Written x t) e = passing_atom (record { may_write = true; element = t }) (lone_atom e)
  argument (Read x t) e = passing_atom (record { may_write = false; element = t }) (lone_atom e)
  argument (Scalar x) e = number label here.names e

  -- Y4: there must be as many arguments as parameters
  abbrev pub arguments : List Declared → List Expr → List TypeError
  arguments [] [] = []
  arguments [] (e ∷ es) = wrong_arguments
  arguments (p ∷ ps) [] = wrong_arguments
  arguments (p ∷ ps) (e ∷ es) = argument p e ++ arguments ps es

  -- Y7: a `mut` argument overlaps another section argument
  abbrev pub apart : List Passed → List TypeError
  apart ss = if overlapping here.sections ss then Overlapping label ∷ [] else []

  -- a call of the procedure with this number and these parameters; Y1: there is no such procedure
  abbrev pub calling : Option (ℕ × List Declared) → List Expr → List TypeError
  calling None es = NotInScope label ∷ []
  calling (Some f) es = arguments f.1 es ++ apart (passed here.names f.1 es)
