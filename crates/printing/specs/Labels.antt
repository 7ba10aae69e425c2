-- The lines about labels: how many a program has, and which may run in parallel.
use Rattle.std.specs.Prelude.{ℕ, ◌+◌, List, [], ◌∷◌, ◌++◌, codes, length}
use Rattle.std.specs.Fmt.{decimal}
use Rattle.types.specs.Code.{Procedure, Program}
use Rattle.types.specs.Statements.{statements}

-- a label for each statement
abbrev pub labels_in_procedures : List Procedure → ℕ
labels_in_procedures [] = 0
labels_in_procedures (f ∷ fs) = statements f.body + labels_in_procedures fs

-- those of the procedures and of `main`
abbrev pub labels_in : Program → ℕ
labels_in p = labels_in_procedures p.procedures + statements p.main.body

-- a program with this many procedures and labels is accepted
abbrev pub accepted_by : (procedures labels : ℕ) → List ℕ
accepted_by procedures labels =
    codes "accepted: "
    ++ (decimal procedures ++ (codes " procedures, " ++ (decimal labels ++ codes " labels\n")))

-- the line for an accepted program; `main` isn't counted among its procedures
abbrev pub accepted_text : Program → List ℕ
accepted_text p = accepted_by (length p.procedures) (labels_in p)

-- the line for a pair of labels
abbrev pub pair_text : ℕ × ℕ → List ℕ
pair_text pair = decimal pair.0 ++ (codes " " ++ (decimal pair.1 ++ codes "\n"))
