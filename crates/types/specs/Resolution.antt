-- The code of a program: the meanings of its names, and the label of each statement.
use Rattle.std.specs.Prelude.{ℕ, ◌+◌, List, [], ◌∷◌, map, length, codes as ascii, true, false, pos, Option}
use Rattle.std.specs.Prelude.{Some, None, option_map, nat_eq, if◌then◌else◌}
use Rattle.std.specs.Cmp.Lexicographic.{pointwise}
use Rattle.syntax_tree.specs.declared.tree.Sign.{Sign}
use Rattle.syntax_tree.specs.declared.tree.Sign.TheVariants.{Plus as SignPlus, Minus as SignMinus}
use Rattle.syntax_tree.specs.declared.tree.Operator.{Operator as Factored}
use Rattle.syntax_tree.specs.declared.tree.Operator.TheVariants.{Times as ByTimes, Over as ByOver}
use Rattle.syntax_tree.specs.declared.tree.Operator.TheVariants.{Modulo as ByModulo}
use Rattle.syntax_tree.specs.Tree.{Expr, Or, Conjs, NoConj, OrConj, Conj, And, Negs, NoNeg, AndNeg, Neg}
use Rattle.syntax_tree.specs.Tree.{Plainly, Not as Denied, Cmp, Alone, Compare as Compared, Sum, Add, Terms}
use Rattle.syntax_tree.specs.Tree.{NoTerm, AddTerm, Prod, Multiply, Factors, NoFactor, MultiplyFactor, Unary}
use Rattle.syntax_tree.specs.Tree.{Positive, Negative as Minus_of, Atom, Number as Numeral, True, False, Name}
use Rattle.syntax_tree.specs.Tree.{Element as Element_of, Length as Length_of, Parens, Stmt, Skip as Skips}
use Rattle.syntax_tree.specs.Tree.{Var, Assign as Assigns, Store as Stores, Print as Prints, Fault as Faults}
use Rattle.syntax_tree.specs.Tree.{If as Ifs, IfElse, While as Whiles, Split as Splits, Parts as Cuts, Call as Calls}
use Rattle.syntax_tree.specs.Tree.{Async as Asyncs, Finish as Finishes, Rescue as Rescues, Block, End as Ends}
use Rattle.syntax_tree.specs.Tree.{Then as Thens}
use Rattle.syntax_tree.specs.Tree.{Array as DeclaredArray, Parameter as DeclaredParameter}
use Rattle.syntax_tree.specs.Tree.{Scalar as ScalarParameter, Procedure as DeclaredProcedure, Main}
use Rattle.syntax_tree.specs.Tree.{Program as Text, lone_atom}
use Rattle.types.specs.declared.code.Operator.{Operator}
use Rattle.types.specs.declared.code.Operator.TheVariants.{Plus, Minus, Times, Over, Modulo}
use Rattle.types.specs.Code.{Number, Literal, Scalar, Element, Length, Negative, Chain, Links, Done, Link}
use Rattle.types.specs.Code.{Truth, Constant, Compare, Not, Both, Either, Truths, NoMore, Also, Skip, Assign}
use Rattle.types.specs.Code.{Store, Print, Raise, Code, Do, If, While, Split, Parts, Call, Async, Finish}
use Rattle.types.specs.Code.{Rescue, Codes, End, Then, Array, Procedure, Program}
use Rattle.types.specs.Scope.{Names, Scope, section_of, slot_of, with_sides, with_turn, next, inside_async, out_of}
use Rattle.types.specs.Scope.{behind, after, in_handler, in_procedure, in_main}

abbrev pub sign : Sign → Operator
sign SignPlus = Plus
sign SignMinus = Minus

abbrev pub factor : Factored → Operator
factor ByTimes = Times
factor ByOver = Over
factor ByModulo = Modulo

-- the result if no number, or no boolean, is spelled
abbrev pub no_number : Number
no_number = Literal (pos 0)

abbrev pub no_truth : Truth
no_truth = Constant false

module _ (names : Names) where
  abbrev mutual
    -- the number expression that an expression spells; a single operand is no chain
    pub number : Expr → Number
    number (Or c NoConj) = number_conj c
    number (Or c (OrConj d rest)) = no_number

    pub number_conj : Conj → Number
    number_conj (And n NoNeg) = number_neg n
    number_conj (And n (AndNeg m rest)) = no_number

    pub number_neg : Neg → Number
    number_neg (Plainly c) = number_cmp c
    number_neg (Denied c) = no_number

    pub number_cmp : Cmp → Number
    number_cmp (Alone s) = number_sum s
    number_cmp (Compared a r b) = no_number

    pub number_sum : Sum → Number
    number_sum (Add p NoTerm) = number_prod p
    number_sum (Add p (AddTerm o q rest)) = Chain (number_prod p) (Link (sign o) (number_prod q) (terms rest))

    pub terms : Terms → Links
    terms NoTerm = Done
    terms (AddTerm o p rest) = Link (sign o) (number_prod p) (terms rest)

    pub number_prod : Prod → Number
    number_prod (Multiply u NoFactor) = number_unary u
    number_prod (Multiply u (MultiplyFactor o w rest)) =
        Chain (number_unary u) (Link (factor o) (number_unary w) (factors rest))

    pub factors : Factors → Links
    factors NoFactor = Done
    factors (MultiplyFactor o u rest) = Link (factor o) (number_unary u) (factors rest)

    pub number_unary : Unary → Number
    number_unary (Positive a) = number_atom a
    number_unary (Minus_of a) = Negative (number_atom a)

    pub number_atom : Atom → Number
    number_atom (Numeral n) = Literal (pos n)
    number_atom True = no_number
    number_atom False = no_number
    number_atom (Name x) = Scalar (slot_of names x)
    number_atom (Element_of s i) = Element (section_of names s) (number i)
    number_atom (Length_of s) = Length (section_of names s)
    number_atom (Parens e) = number e

  abbrev mutual
    -- the boolean expression that an expression spells; a single operand is no chain
    pub truth : Expr → Truth
    truth (Or c NoConj) = truth_conj c
    truth (Or c (OrConj d rest)) = Either (Also (truth_conj c) (Also (truth_conj d) (conjs rest)))

    pub conjs : Conjs → Truths
    conjs NoConj = NoMore
    conjs (OrConj c rest) = Also (truth_conj c) (conjs rest)

    pub truth_conj : Conj → Truth
    truth_conj (And n NoNeg) = truth_neg n
    truth_conj (And n (AndNeg m rest)) = Both (Also (truth_neg n) (Also (truth_neg m) (negs rest)))

    pub negs : Negs → Truths
    negs NoNeg = NoMore
    negs (AndNeg n rest) = Also (truth_neg n) (negs rest)

    pub truth_neg : Neg → Truth
    truth_neg (Plainly c) = truth_cmp c
    truth_neg (Denied c) = Not (truth_cmp c)

    pub truth_cmp : Cmp → Truth
    truth_cmp (Alone s) = truth_sum s
    truth_cmp (Compared a r b) = Compare r (number_sum a) (number_sum b)

    pub truth_sum : Sum → Truth
    truth_sum (Add p NoTerm) = truth_prod p
    truth_sum (Add p (AddTerm o q rest)) = no_truth

    pub truth_prod : Prod → Truth
    truth_prod (Multiply u NoFactor) = truth_unary u
    truth_prod (Multiply u (MultiplyFactor o w rest)) = no_truth

    pub truth_unary : Unary → Truth
    truth_unary (Positive a) = truth_atom a
    truth_unary (Minus_of a) = no_truth

    pub truth_atom : Atom → Truth
    truth_atom True = Constant true
    truth_atom False = Constant false
    truth_atom (Parens e) = truth e
    truth_atom a = no_truth

-- the section whose name an argument consists of
abbrev pub named_by : Names → Option Atom → ℕ
named_by names None = 0
named_by names (Some (Name x)) = section_of names x
named_by names (Some (Numeral n)) = 0
named_by names (Some True) = 0
named_by names (Some False) = 0
named_by names (Some (Element_of s i)) = 0
named_by names (Some (Length_of s)) = 0
named_by names (Some (Parens e)) = 0

-- the arguments for the scalar parameters, and those for the section parameters
abbrev pub values_for : Names → List DeclaredParameter → List Expr → List Number
values_for names (ScalarParameter x ∷ ps) (e ∷ es) = number names e ∷ values_for names ps es
values_for names (p ∷ ps) (e ∷ es) = values_for names ps es
values_for names ps es = []

abbrev pub sections_for : Names → List DeclaredParameter → List Expr → List ℕ
sections_for names (ScalarParameter x ∷ ps) (e ∷ es) = sections_for names ps es
sections_for names (p ∷ ps) (e ∷ es) = named_by names (lone_atom e) ∷ sections_for names ps es
sections_for names ps es = []

-- the number and the parameters of the first procedure with a name; n procedures come before the
-- list
abbrev pub procedure_of : (n : ℕ) → List ℕ → List DeclaredProcedure → Option (ℕ × List DeclaredParameter)
procedure_of n x [] = None
procedure_of n x (f ∷ fs) =
    if pointwise nat_eq x f.name then Some (n, f.parameters) else procedure_of (n + 1) x fs

module _ (procedures : List DeclaredProcedure) where
  -- a call of a procedure that doesn't exist means nothing
  abbrev pub call : Names → Option (ℕ × List DeclaredParameter) → List Expr → Code
  call names None es = Call 0 [] []
  call names (Some f) es = Call f.0 (values_for names f.1 es) (sections_for names f.1 es)

  abbrev mutual
    -- the code of a statement, and of a block: each statement has the next label, and then those inside it
    pub code : Scope → Stmt → Code
    code here Skips = Do Skip
    code here (Var x e) = Do (Assign here.slot (number here.names e))
    code here (Assigns x e) = Do (Assign (slot_of here.names x) (number here.names e))
    code here (Stores s i e) =
        Do (Store (section_of here.names s) (number here.names i) (number here.names e))
    code here (Prints e es) = Do (Print (number here.names e ∷ map (number here.names) es))
    code here (Faults e) = Do (Raise (number here.names e))
    code here (Ifs e b) = If (truth here.names e) (codes (next here) b) End
    code here (IfElse e b c) =
        If (truth here.names e) (codes (next here) b)
        (codes (out_of here (after b (next here))) c)
    code here (Whiles e b) = While (truth here.names e) (codes (next here) b)
    code here (Splits s e l r b) =
        Split (section_of here.names s) (number here.names e) (length here.sections)
        (length here.sections + 1)
        (codes (with_sides (section_of here.names s) l r (next here)) b)
    code here (Cuts s e x i b) =
        Parts (section_of here.names s) (number here.names e) (length here.sections) here.slot
        (codes (with_turn (section_of here.names s) x i (next here)) b)
    code here (Calls f es) = call here.names (procedure_of 0 f procedures) es
    code here (Asyncs b) = Async (codes (inside_async (next here)) b)
    code here (Finishes b) = Finish (codes (next here) b)
    code here (Rescues b x c) =
        Rescue (codes (next here) b) (after b (next here)).slot (codes (in_handler b x here) c)

    pub codes : Scope → Block → Codes
    codes here Ends = End
    codes here (Thens s rest) = Then here.label (code here s) (codes (behind s here) rest)

abbrev pub array : DeclaredArray → Array
array a = record { name = a.name; element = a.element; length = a.length }

-- the label after the last statement of a procedure whose first has the label, and after those of
-- several procedures
abbrev pub label_behind : (label : ℕ) → DeclaredProcedure → ℕ
label_behind label f = (after f.body (in_procedure label f.parameters)).label

abbrev pub label_behind_all : (label : ℕ) → List DeclaredProcedure → ℕ
label_behind_all label [] = label
label_behind_all label (f ∷ fs) = label_behind_all (label_behind label f) fs

module _ (all : List DeclaredProcedure) where
  -- the procedure with this name, or `main`, whose body starts here
  abbrev pub resolved : (name : List ℕ) → Scope → Block → Procedure
  resolved name here b = record {
    name = name;
    parameters = here.kinds;
    scalars = here.slot;
    slots = (after b here).slot;
    sections = (after b here).sections;
    section_names = (after b here).section_names;
    body = codes all here b;
  }

  -- procedures, the first of which starts with the label
  abbrev pub procedures : (label : ℕ) → List DeclaredProcedure → List Procedure
  procedures label [] = []
  procedures label (f ∷ fs) =
      resolved f.name (in_procedure label f.parameters) f.body
      ∷ procedures (label_behind label f) fs

-- `main` has the arrays as its parameters
abbrev pub with_main : List DeclaredProcedure → Main → Program
with_main fs m = record {
  arrays = map array m.arrays;
  procedures = procedures fs 1 fs;
  main = resolved fs (ascii "main") (in_main (label_behind_all 1 fs) m.arrays) m.body;
}

-- the code of a program with a `main`; statements are numbered from 1 over the whole text
abbrev pub resolution : Text → Option Program
resolution t = option_map (with_main t.procedures) t.main
