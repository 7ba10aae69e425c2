-- What worked texts resolve to, computed.
use Rattle.std.proofs.Common.{◌≡◌, ℕ, List, [], ◌∷◌, Some, None, refl}
use Rattle.syntax_tree.specs.declared.tree.ElementType.TheVariants.{Int}
use Rattle.syntax_tree.specs.declared.tree.Relation.{Relation}
use Rattle.syntax_tree.specs.declared.tree.Relation.TheVariants.{AtMost, Equal}
use Rattle.syntax_tree.specs.declared.tree.Sign.TheVariants.{Plus}
use Rattle.syntax_tree.specs.declared.tree.Operator.{Operator}
use Rattle.syntax_tree.specs.declared.tree.Operator.TheVariants.{Times, Over}
use Rattle.syntax_tree.specs.Tree.{Expr, Or, NoConj, And, NoNeg, Plainly, Alone, Compare, Add, NoTerm, AddTerm, Multiply}
use Rattle.syntax_tree.specs.Tree.{NoFactor, MultiplyFactor, Positive, Atom, Number, Name, Element, Length, Var, Assign}
use Rattle.syntax_tree.specs.Tree.{Store, Print, If, IfElse, Split, Call, Async, Finish, End, Then, Array, Written, Program}
use Rattle.types.specs.Resolution.{resolution}
use Rattle.types.proofs.Programs.{two_arrays, doubling, scalars}

abbrev name : ℕ → List ℕ
name letter = letter ∷ []

abbrev atom : Atom → Expr
atom a = Or (And (Plainly (Alone (Add (Multiply (Positive a) NoFactor) NoTerm))) NoNeg) NoConj

abbrev product : Atom → Operator → ℕ → Expr
product a o n =
    Or (And (Plainly (Alone (Add (Multiply (Positive a) (MultiplyFactor o (Positive (Number n)) NoFactor)) NoTerm))) NoNeg) NoConj

abbrev total : Atom → Atom → Expr
total a b =
    Or (And (Plainly (Alone (Add (Multiply (Positive a) NoFactor) (AddTerm Plus (Multiply (Positive b) NoFactor) NoTerm)))) NoNeg) NoConj

abbrev compare : Atom → Relation → ℕ → Expr
compare a r n =
    Or (And (Plainly
    (Compare (Add (Multiply (Positive a) NoFactor) NoTerm) r
    (Add (Multiply (Positive (Number n)) NoFactor) NoTerm))) NoNeg) NoConj

abbrev num : ℕ → Expr
num n = atom (Number n)

abbrev int_array : (letter n : ℕ) → Array
int_array letter n = record { name = name letter; element = Int; length = n }

-- main { array a: int[1]; array b: int[1]; finish { async { a[0] = 7; } b[0] = 8; } print a[0], b[0]; }
abbrev two_arrays_text : Program
two_arrays_text = record {
  procedures = [];
  main = Some (record {
    arrays = int_array 97 1 ∷ int_array 98 1 ∷ [];
    body =
        Then (Finish (Then (Async (Then (Store (name 97) (num 0) (num 7)) End)) (Then (Store (name 98) (num 0) (num 8)) End)))
        (Then (Print (atom (Element (name 97) (num 0))) (atom (Element (name 98) (num 0)) ∷ [])) End);
  });
}

two_arrays_resolved : resolution two_arrays_text ≡ Some two_arrays
two_arrays_resolved = refl

-- proc t(mut s: int) { if len(s) <= 1 { if len(s) == 1 { s[0] = s[0] * 2; } } else { split s at len(s) / 2 as l, r {
-- async { t(l); } t(r); } } }
-- main { array a: int[8]; finish { t(a); } }
abbrev doubling_text : Program
doubling_text = record {
  procedures = record {
    name = name 116;
    parameters = Written (name 115) Int ∷ [];
    body = Then (IfElse (compare (Length (name 115)) AtMost 1)
        (Then (If (compare (Length (name 115)) Equal 1)
        (Then (Store (name 115) (num 0) (product (Element (name 115) (num 0)) Times 2)) End)) End)
        (Then (Split (name 115) (product (Length (name 115)) Over 2) (name 108) (name 114) (
        Then (Async (Then (Call (name 116) (atom (Name (name 108)) ∷ [])) End))
        (Then (Call (name 116) (atom (Name (name 114)) ∷ [])) End))) End)) End;
  } ∷ [];
  main = Some (record {
    arrays = int_array 97 8 ∷ [];
    body = Then (Finish (Then (Call (name 116) (atom (Name (name 97)) ∷ [])) End)) End;
  });
}

doubling_resolved : resolution doubling_text ≡ Some (doubling 8)
doubling_resolved = refl

-- main { var x = 1; async { var y = 2; print x + y; } finish { x = 3; } print x; }
abbrev scalars_text : Program
scalars_text = record {
  procedures = [];
  main = Some (record {
    arrays = [];
    body =
        Then (Var (name 120) (num 1)) (
        Then (Async (Then (Var (name 121) (num 2)) (Then (Print (total (Name (name 120)) (Name (name 121))) []) End))) (
        Then (Finish (Then (Assign (name 120) (num 3)) End)) (
        Then (Print (atom (Name (name 120))) []) End)));
  });
}

scalars_resolved : resolution scalars_text ≡ Some scalars
scalars_resolved = refl

no_main : resolution (record { procedures = []; main = None }) ≡ None
no_main = refl
