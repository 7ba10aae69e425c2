-- The canonical text and the listing of programs, computed.
use Rattle.std.proofs.Common.{◌≡◌, ℕ, List, [], ◌∷◌, codes, Some, None, refl}
use Rattle.std.specs.Fmt.{digits}
use Rattle.syntax_tree.specs.declared.tree.ElementType.TheVariants.{Int as IntElement}
use Rattle.syntax_tree.specs.declared.tree.Relation.TheVariants.{Less as IsLess}
use Rattle.syntax_tree.specs.declared.tree.Sign.TheVariants.{Minus as MinusSign}
use Rattle.syntax_tree.specs.declared.tree.Operator.TheVariants.{Times}
use Rattle.syntax_tree.specs.Tree.{Expr, Or, NoConj, And, NoNeg, Plainly, Alone, Compare, Sum, Add, NoTerm, AddTerm}
use Rattle.syntax_tree.specs.Tree.{Multiply, NoFactor, MultiplyFactor, Unary, Positive, Negative, Number, Name, Element}
use Rattle.syntax_tree.specs.Tree.{Length, Parens, Store, Print, Fault, IfElse, Call, Async, Finish, Rescue, Block, End, Then}
use Rattle.syntax_tree.specs.Tree.{Array, Parameter, Written, Scalar, Procedure, Main, Program}
use Rattle.syntax.specs.Spelling.{spelling, procedures_then, main_tokens, arrays_then, parameters_then}
use Rattle.syntax.specs.Spelling.{more_parameters_then, parameter_then, stmt_then, expr_then, exprs_then, more_then}
use Rattle.syntax.specs.Canonical.{laid, canonical, listed}

abbrev sum_of : Unary → Sum
sum_of u = Add (Multiply u NoFactor) NoTerm

abbrev expr_of : Unary → Expr
expr_of u = Or (And (Plainly (Alone (sum_of u))) NoNeg) NoConj

abbrev number : ℕ → Expr
number n = expr_of (Positive (Number n))

abbrev a : List ℕ
a = codes "a"

abbrev b : List ℕ
b = codes "b"

abbrev array_of : List ℕ → Array
array_of x = record { name = x; element = IntElement; length = 1 }

abbrev element : List ℕ → Expr
element x = expr_of (Positive (Element x (number 0)))

abbrev program_of : Main → Program
program_of m = record { procedures = []; main = Some m }

abbrev main_of : List Array → Block → Main
main_of arrays body = record { arrays = arrays; body = body }

-- two arrays: a task writes one of them, and its owner the other
abbrev two_arrays : Program
two_arrays =
    let inside = Then (Async (Then (Store a (number 0) (number 7)) End)) (Then (Store b (number 0) (number 8)) End) in
    program_of (main_of (array_of a ∷ array_of b ∷ []) (Then (Finish inside) (Then (Print (element a) (element b ∷ [])) End)))

pub two_arrays_listed : listed two_arrays
    ≡ codes "      main {\n        array a: int[1];\n        array b: int[1];\n    1   finish {\n    2     async {\n    3       a[0] = 7;\n          }\n    4     b[0] = 8;\n        }\n    5   print a[0], b[0];\n      }\n"
unfolding digits laid spelling procedures_then main_tokens arrays_then stmt_then expr_then more_then
two_arrays_listed = refl

abbrev s : List ℕ
s = codes "s"

abbrev n : List ℕ
n = codes "n"

abbrev f : List ℕ
f = codes "f"

abbrev expr_by : Sum → Expr
expr_by u = Or (And (Plainly (Alone u)) NoNeg) NoConj

abbrev name : List ℕ → Expr
name x = expr_of (Positive (Name x))

-- a finish whose fault is handled; the line of the handler has no label
abbrev rescued : Program
rescued =
    let body = Then (Fault (number 1)) End in
    let handler = Then (Print (name n) []) End in
    program_of (main_of [] (Then (Rescue body n handler) (Then (Print (number 9) []) End)))

pub rescued_listed : listed rescued
    ≡ codes "      main {\n    1   finish {\n    2     fault 1;\n        } rescue n {\n    3     print n;\n        }\n    4   print 9;\n      }\n"
unfolding digits laid spelling procedures_then main_tokens arrays_then stmt_then expr_then more_then
rescued_listed = refl

-- a section's length less n, in parentheses, twice
abbrev twice : Expr
twice =
    let inside = expr_by (Add (Multiply (Positive (Length s)) NoFactor) (AddTerm MinusSign (Multiply (Positive
    (Name n)) NoFactor) NoTerm)) in
    expr_by (Add (Multiply (Positive (Parens inside)) (MultiplyFactor Times (Positive (Number 2)) NoFactor)) NoTerm)

abbrev procedure_of : List ℕ → List Parameter → Block → Procedure
procedure_of x ps body = record { name = x; parameters = ps; body = body }

abbrev without_main : List Procedure → Program
without_main ps = record { procedures = ps; main = None }

-- a procedure that writes or calls itself
abbrev calling : Program
calling =
    let guard = Or (And (Plainly (Compare (sum_of (Positive (Name n))) IsLess (sum_of (Negative (Number 1))))) NoNeg) NoConj in
    let call = Call f (name s ∷ expr_of (Negative (Name n)) ∷ []) in
    let body = Then (IfElse guard (Then (Store s (name n) twice) End) (Then call End)) End in
    without_main (procedure_of f (Written s IntElement ∷ Scalar n ∷ []) body ∷ [])

pub calling_canonical : canonical calling
    ≡ codes "proc f(mut s: int, n: int) {\n  if n < -1 {\n    s[n] = (len(s) - n) * 2;\n  } else {\n    f(s, -n);\n  }\n}\n"
unfolding digits laid spelling procedures_then parameters_then more_parameters_then parameter_then main_tokens
    stmt_then expr_then exprs_then more_then
calling_canonical = refl
