-- The labels of a program's code.
use Rattle.std.specs.Prelude.{ℕ, List, [], ◌∷◌, ◌++◌}
use Rattle.types.specs.Code.{Code, Do, If, While, Split, Parts, Begun, Call, Async, Finish, Rescue, Codes}
use Rattle.types.specs.Code.{End, Then, Procedure, Program}

abbrev mutual
  -- the labels inside a statement, and those of a list of statements, in the order of the text
  pub labels_inside : Code → List ℕ
  labels_inside (Do s) = []
  labels_inside (If t b c) = labels_of b ++ labels_of c
  labels_inside (While t b) = labels_of b
  labels_inside (Split s e l r b) = labels_of b
  labels_inside (Parts s e x i b) = labels_of b
  labels_inside (Begun s n k x i b) = labels_of b
  labels_inside (Call f es ss) = []
  labels_inside (Async b) = labels_of b
  labels_inside (Finish b) = labels_of b
  labels_inside (Rescue b x c) = labels_of b ++ labels_of c

  pub labels_of : Codes → List ℕ
  labels_of End = []
  labels_of (Then l s rest) = l ∷ labels_inside s ++ labels_of rest

-- the labels of procedures
abbrev pub labels_of_procedures : List Procedure → List ℕ
labels_of_procedures [] = []
labels_of_procedures (f ∷ fs) = labels_of f.body ++ labels_of_procedures fs

-- the labels of a program; `main` comes last in a text
abbrev pub labels_of_program : Program → List ℕ
labels_of_program p = labels_of_procedures p.procedures ++ labels_of p.main.body
