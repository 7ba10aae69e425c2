-- Which rules of the language a program breaks: its errors, each with its kind and, if it is in a
-- statement, the label.
use Rattle.std.specs.Prelude.{ℕ, ◌+◌, ◌≡◌, List, [], ◌∷◌, ◌++◌, Option, Some, None, length, sum_by}
use Rattle.std.specs.Prelude.{nat_eq, nat_lt, if◌then◌else◌}
use Rattle.std.specs.List.{list_any}
use Rattle.std.specs.Cmp.Lexicographic.{pointwise}
use Rattle.syntax_tree.specs.Tree.{Stmt, Skip, Var, Assign, Store, Print, Fault, If, IfElse, While, Split}
use Rattle.syntax_tree.specs.Tree.{Parts, Call, Async, Finish, Rescue, Block, End, Then, Array, Parameter}
use Rattle.syntax_tree.specs.Tree.{Written, Read, Scalar, Procedure, Main, Program}
use Rattle.types.specs.declared.error.TypeError.{TypeError}
use Rattle.types.specs.declared.error.TypeError.TheVariants.{DeclaredTwice, NoMain, OverLimit}
use Rattle.types.specs.CallErrors.{calling}
use Rattle.types.specs.ExpressionErrors.{number, numbers, truth}
use Rattle.types.specs.NameErrors.{declaring, naming_section, naming_written, naming_assigned}
use Rattle.types.specs.Resolution.{procedure_of, label_behind, label_behind_all}
use Rattle.types.specs.Scope.{ASection, AScalar, meant, section_of, Scope, empty_scope, next, inside_async}
use Rattle.types.specs.Scope.{with_sides, with_turn, out_of, behind, after, in_handler, with_parameter}
use Rattle.types.specs.Scope.{with_array, in_procedure, in_main}

-- Y9: there are more than `most`
abbrev pub limit : (most count : ℕ) → List TypeError
limit most n = if nat_lt most n then OverLimit ∷ [] else []

module _ (procedures : List Procedure) where
  -- the errors of a statement itself, without those of the statements inside it
  abbrev pub own_errors : Scope → Stmt → List TypeError
  own_errors here Skip = []
  own_errors here (Var x e) =
      number here.label here.names e ++ declaring (Some here.label) (meant x here.names)
  own_errors here (Assign x e) =
      naming_assigned here.label here (meant x here.names) ++ number here.label here.names e
  own_errors here (Store s i e) =
      naming_written here.label here (meant s here.names)
      ++ (number here.label here.names i ++ number here.label here.names e)
  own_errors here (Print e es) = numbers here.label here.names (e ∷ es)
  own_errors here (Fault e) = number here.label here.names e
  own_errors here (If e b) = truth here.label here.names e
  own_errors here (IfElse e b c) = truth here.label here.names e
  own_errors here (While e b) = truth here.label here.names e
  own_errors here (Split s e l r b) =
      naming_section here.label (meant s here.names) ++ (number here.label here.names e
      ++ (declaring (Some here.label) (meant r here.names)
      ++ declaring (Some here.label) (meant l ((r, ASection (length here.sections + 1)) ∷ here.names))))
  own_errors here (Parts s e x i b) =
      naming_section here.label (meant s here.names) ++ (number here.label here.names e
      ++ (declaring (Some here.label) (meant i here.names)
      ++ declaring (Some here.label) (meant x ((i, AScalar here.slot) ∷ here.names))))
  own_errors here (Call f es) = calling here.label here (procedure_of 0 f procedures) es
  own_errors here (Async b) = []
  own_errors here (Finish b) = []
  own_errors here (Rescue b x c) = declaring (Some here.label) (meant x here.names)

  abbrev mutual
    -- the errors of the statements inside a statement
    pub inner_errors : Scope → Stmt → List TypeError
    inner_errors here Skip = []
    inner_errors here (Var x e) = []
    inner_errors here (Assign x e) = []
    inner_errors here (Store s i e) = []
    inner_errors here (Print e es) = []
    inner_errors here (Fault e) = []
    inner_errors here (If e b) = errors (next here) b
    inner_errors here (IfElse e b c) = errors (next here) b ++ errors (out_of here (after b (next here))) c
    inner_errors here (While e b) = errors (next here) b
    inner_errors here (Split s e l r b) = errors (with_sides (section_of here.names s) l r (next here)) b
    inner_errors here (Parts s e x i b) = errors (with_turn (section_of here.names s) x i (next here)) b
    inner_errors here (Call f es) = []
    inner_errors here (Async b) = errors (inside_async (next here)) b
    inner_errors here (Finish b) = errors (next here) b
    inner_errors here (Rescue b x c) = errors (next here) b ++ errors (in_handler b x here) c

    -- the errors of a block; Y9: a label is more than 65,535
    pub errors : Scope → Block → List TypeError
    errors here End = []
    errors here (Then s rest) =
        (limit 65535 here.label ++ (own_errors here s ++ inner_errors here s)) ++ errors (behind s here) rest

  -- all errors of a statement, except that of its label
  abbrev pub errors_in : Scope → Stmt → List TypeError
  errors_in here s = own_errors here s ++ inner_errors here s

-- Y2: parameters, and arrays
abbrev pub name_of : Parameter → List ℕ
name_of (Written x e) = x
name_of (Read x e) = x
name_of (Scalar x) = x

abbrev pub parameter_errors : Scope → List Parameter → List TypeError
parameter_errors here [] = []
parameter_errors here (p ∷ ps) =
    declaring None (meant (name_of p) here.names) ++ parameter_errors (with_parameter p here) ps

abbrev pub array_errors : Scope → List Array → List TypeError
array_errors here [] = []
array_errors here (a ∷ arrays) =
    declaring None (meant a.name here.names) ++ array_errors (with_array a here) arrays

-- Y2: a procedure has the name of one before it
abbrev pub name_errors : (before : List (List ℕ)) → List Procedure → List TypeError
name_errors before [] = []
name_errors before (f ∷ fs) =
    (if list_any (pointwise nat_eq f.name) before then DeclaredTwice None ∷ [] else [])
    ++ name_errors (before ++ f.name ∷ []) fs

module _ (all : List Procedure) where
  -- a procedure whose first statement has the label; Y9: more than 16 parameters
  abbrev pub procedure_errors : (label : ℕ) → Procedure → List TypeError
  procedure_errors label f =
      limit 16 (length f.parameters) ++ (parameter_errors (empty_scope label) f.parameters
      ++ errors all (in_procedure label f.parameters) f.body)

  abbrev pub procedures_errors : (label : ℕ) → List Procedure → List TypeError
  procedures_errors label [] = []
  procedures_errors label (f ∷ fs) = procedure_errors label f ++ procedures_errors (label_behind label f) fs

  -- `main`, whose first statement has the label; Y8: there is none; Y9: more than 32 arrays, or
  -- more than 4,194,304 elements of all arrays together
  abbrev pub main_errors : (label : ℕ) → Option Main → List TypeError
  main_errors label None = NoMain ∷ []
  main_errors label (Some m) =
      limit 32 (length m.arrays) ++ (limit 4194304 (sum_by (λ a. a.length) m.arrays)
      ++ (array_errors (empty_scope label) m.arrays ++ errors all (in_main label m.arrays) m.body))

-- all errors of a program; Y9: more than 256 procedures in addition to `main`
abbrev pub errors_of : Program → List TypeError
errors_of p =
    limit 256 (length p.procedures) ++ (name_errors [] p.procedures
    ++ (procedures_errors p.procedures 1 p.procedures
    ++ main_errors p.procedures (label_behind_all 1 p.procedures) p.main))

-- a program has no errors
abbrev pub BreaksNoRule : Program → Type 0
BreaksNoRule p = errors_of p ≡ []
